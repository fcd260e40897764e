-- Plates come in the order of their words.
use Rattle.std.proofs.Common.{⊎_elim, sym, ap, ◌∙◌, arith}
use Rattle.std.specs.Prelude.{◌≡◌, ℕ, zero, suc, ◌/◌, ◌%◌, ◌^◌, ◌<◌, ◌≤◌, ltb, nat_lt, refl}
use Rattle.std.proofs.lemmas.Nat.{div-add-mod', mod_below}
use Rattle.std.proofs.lemmas.Bool.{lt-ltb, le-ltb, cases_lt}
use Rattle.keys.specs.Order.{Lawful}
use Rattle.keys.specs.PlateWord.{text_of, text_before, plate_key, plate_before}
use Rattle.keys.specs.Lexical.{lex, lex_number}
use Rattle.keys.specs.PlateWords.{bytes_pos, text_none, text_more}
use Rattle.keys.specs.Ranks.{lawful_by_rank}

-- one byte more compares texts as it compares words
order_more : (n : ℕ) → ((a b : ℕ) → a < 256 ^ n → b < 256 ^ n → text_before (text_of n a) (text_of n b) ≡ nat_lt a b)
    → (a b : ℕ) → text_before (text_of (suc n) a) (text_of (suc n) b) ≡ nat_lt a b
unfolding text_before
order_more n below a b =
    let k = 256 ^ n in
    let p = mod_below a k (bytes_pos n) in
    let q = mod_below b k (bytes_pos n) in
    let one : lex (a / k) (b / k) (text_before (text_of n (a % k)) (text_of n (b % k))) ≡ ltb a b =
    ap (lex (a / k) (b / k)) (below (a % k) (b % k) p q)
    ∙ sym (lex_number k (a / k) (b / k) (a % k) (b % k) p q)
    ∙ (λ i. ltb (div-add-mod' a k i) (div-add-mod' b k i)) in
    ⊎_elim
    (λ (sb : 0 < b). ⊎_elim
    (λ (sa : 0 < a). rw (text_more n a sa, text_more n b sb) one)
    (λ (za : a ≤ 0). rw (text_none (suc n) a (omega arith), text_more n b sb) (sym (lt-ltb a b (omega arith))))
    (cases_lt 0 a))
    (λ (zb : b ≤ 0). rw (text_none (suc n) b (omega arith)) (sym (le-ltb a b (omega arith))))
    (cases_lt 0 b)

order : (n a b : ℕ) → a < 256 ^ n → b < 256 ^ n → text_before (text_of n a) (text_of n b) ≡ nat_lt a b
unfolding text_before
order zero a b p q = rw (text_none zero a (omega arith), text_none zero b (omega arith)) (sym (le-ltb a b (omega arith)))
order (suc n) a b p q = order_more n (order n) a b

pub by_number : (a b : ℕ) → plate_before a b ≡ nat_lt a b
by_number a b = order_more 6 (order 6) a b

pub plates_lawful : Lawful plate_key plate_before
unfolding text_of
plates_lawful = lawful_by_rank plate_key plate_before (λ w. w) refl by_number (λ a b ka kb e. e)
