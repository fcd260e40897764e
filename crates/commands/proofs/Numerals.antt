-- Reading a number digit by digit.
use Rattle.std.proofs.Common.{◌≡◌, ℕ, ◌+◌, ◌-◌, ◌*◌, ◌^◌, ◌<◌, ◌≤◌, true, false, List, [], ◌∷◌, length, get_or, drop, Some, None, sym, ap, ◌∙◌, arith}
use Rattle.std.specs.Str.Parse.{digits_value, digits_value_after}
use Rattle.std.specs.Char.{is_ascii_digit, digit_value as digitValue}
use Rattle.std.specs.Str.{all_ascii_digits}
use Rattle.std.proofs.lemmas.List.{at_drop_more, at_drop_all}
use Rattle.std.proofs.lemmas.Bool.Decides.{nat_tests}
use Rattle.commands.specs.Numbers.{number_read}

-- further digits make no number smaller
grows : (n : ℕ) (cs : List ℕ) → n ≤ digits_value_after 10 n cs
grows n [] = omega arith
grows n (c ∷ cs) = omega (arith, grows (n * 10 + digitValue c) cs)

digit_value : (c : ℕ) → is_ascii_digit c ≡ true → digitValue c ≡ c - 48
digit_value c h = grind (arith, nat_tests)

-- The first i bytes are digits and say v: what is left is read as the whole text is.
pub record Left (text : List ℕ) (i v : ℕ) : Type 0 where
  pub digits : all_ascii_digits (drop i text) ≡ all_ascii_digits text
  pub says : digits_value_after 10 v (drop i text) ≡ digits_value 10 text

module _ (text : List ℕ) (i v : ℕ) (s : Left text i v) where
  next_value : is_ascii_digit (get_or text i 0) ≡ true → v * 10 + digitValue (get_or text i 0) ≡ 10 * v + (get_or text i 0 - 48)
  next_value d = omega (arith, digit_value (get_or text i 0) d)

  -- one digit more
  pub left_more : i < length text → is_ascii_digit (get_or text i 0) ≡ true → Left text (i + 1) (10 * v + (get_or text i 0 - 48))
  left_more h d = record {
    digits = sym (rw d at (at_drop_more all_ascii_digits text i 0 h)) ∙ s.digits;
    says = ap (λ n. digits_value_after 10 n (drop (i + 1) text)) (sym (next_value d)) ∙ sym (at_drop_more (digits_value_after 10 v) text i 0 h) ∙ s.says;
  }

  pub left_no_digit : (most : ℕ) → i < length text → is_ascii_digit (get_or text i 0) ≡ false → None ≡ number_read text most
  left_no_digit most h d =
      let e : all_ascii_digits text ≡ false = sym s.digits ∙ rw d at (at_drop_more all_ascii_digits text i 0 h) in
      grind (arith, nat_tests)

  pub left_all : (most : ℕ) → length text ≤ i → 0 < length text → v ≤ most → Some v ≡ number_read text most
  left_all most h some m =
      let e : all_ascii_digits text ≡ true = sym s.digits ∙ at_drop_all all_ascii_digits text i h in
      let f : digits_value 10 text ≡ v = sym s.says ∙ at_drop_all (digits_value_after 10 v) text i h in
      grind (arith, nat_tests)

-- a value that is too large after some digits stays too large
pub left_too_much : (text : List ℕ) (i v most : ℕ) → Left text i v → most < v → None ≡ number_read text most
left_too_much text i v most s m =
    let g = grows v (drop i text) in
    let f = s.says in
    grind (arith, nat_tests)

-- a digit more for which 64 bits have no room
pub left_no_room : (text : List ℕ) (i v most : ℕ) → Left text i v → most < 2 ^ 64 → i < length text → is_ascii_digit (get_or text i 0) ≡ true → 2 ^ 64 ≤ v * 10 + (get_or text i 0 - 48) → None ≡ number_read text most
left_no_room text i v most s f h d r = left_too_much text (i + 1) (10 * v + (get_or text i 0 - 48)) most (left_more text i v s h d) (omega arith)
