-- What a kind of key promises, whatever its keys stand for.
use Rattle.std.specs.Prelude.{◌≡◌, ℕ, Bool, true, false}

-- Among keys the order is strict and total. Nothing is asked of words that are no keys, but that 0 is one of them.
pub record Lawful (key : ℕ → Bool) (before : ℕ → ℕ → Bool) : Type 0 where
  -- 0 is no key.
  pub nought : key 0 ≡ false
  -- No key comes before itself.
  pub irreflexive : (a : ℕ) → key a ≡ true → before a a ≡ false
  -- Of two keys at most one comes before the other ..
  pub asymmetric : (a b : ℕ) → key a ≡ true → key b ≡ true → before a b ≡ true → before b a ≡ false
  -- .. and of two different keys one does.
  pub total : (a b : ℕ) → key a ≡ true → key b ≡ true → before a b ≡ false → before b a ≡ false → a ≡ b
  -- The order carries over from a, b and b, c to a, c.
  pub transitive : (a b c : ℕ) → key a ≡ true → key b ≡ true → key c ≡ true → before a b ≡ true → before b c ≡ true → before a c ≡ true
