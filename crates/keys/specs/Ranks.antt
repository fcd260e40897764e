-- A kind that orders its words as their ranks, which are numbers, keeps the laws.
use Rattle.std.specs.Prelude.{◌≡◌, ℕ, Bool, true, false, nat_lt}
use Rattle.std.proofs.Common.{arith}
use Rattle.std.proofs.lemmas.Bool.Decides.{nat_tests}
use Rattle.keys.specs.Order.{Lawful}

pub lawful_by_rank : (key : ℕ → Bool) (before : ℕ → ℕ → Bool) (rank : ℕ → ℕ)
    → key 0 ≡ false
    → ((a b : ℕ) → before a b ≡ nat_lt (rank a) (rank b))
    → ((a b : ℕ) → key a ≡ true → key b ≡ true → rank a ≡ rank b → a ≡ b)
    → Lawful key before
lawful_by_rank key before rank no_key by_rank one_rank =
    record {
      nought = no_key;
      irreflexive = λ a ka. grind (arith, nat_tests, by_rank a a);
      asymmetric = λ a b ka kb p. grind (arith, nat_tests, by_rank a b, by_rank b a);
      total = λ a b ka kb p q. one_rank a b ka kb (grind (arith, nat_tests, by_rank a b, by_rank b a));
      transitive = λ a b c ka kb kc p q. grind (arith, nat_tests, by_rank a b, by_rank b c, by_rank a c);
    }
