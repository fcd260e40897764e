-- There and back: a plate from its word, and a word from its plate.
use Rattle.std.proofs.Common.{◌≡◌, ℕ, ◌-◌, ◌<◌, ◌≤◌, true, List, length, take, Ok, ap, ◌∙◌, arith}
use Rattle.std.proofs.lemmas.Bool.Decides.{nat_tests}
use Rattle.keys.specs.PlateWord.{length_good, bytes_good, plate_word, plate_text, plate_key, plate_made, plate_parts, padded, held, shown, Shows}
use Rattle.keys.proofs.PlateBytes.{shown_text}
use Rattle.keys.proofs.PlateSizes.{length_text, zeros_text}
use Rattle.keys.specs.PlateWords.{word_small, text_back, word_back}

-- the text in a word is seen whole
pub shown_held : (w : ℕ) → shown (held (plate_text w)) ≡ plate_text w
shown_held w =
    let t = plate_text w in
    let l : length t ≤ 7 = length_text 7 w in
    let e : 7 - (7 - length t) ≡ length t = omega arith in
    ap (λ n. take (7 - n) (padded 7 t)) (zeros_text 7 w) ∙ ap (λ n. take n (padded 7 t)) e ∙ shown_text 7 t l

module _ (bs : List ℕ) (hl : length_good (length bs) ≡ true) (hb : bytes_good bs ≡ true) where
  pub made_of_good : plate_made bs ≡ Ok (plate_word bs)
  made_of_good = rw (hl, hb)

  -- what is made comes apart into what it was made of
  pub made_and_parted : Shows bs (plate_parts (plate_word bs))
  made_and_parted =
      let w = plate_word bs in
      let short : length bs ≤ 7 = grind (arith, nat_tests, hl) in
      let t : plate_text w ≡ bs = text_back 7 bs short hb in
      let k : plate_key w ≡ true = rw (t, hl, hb) (grind (arith, nat_tests, word_small 7 bs hb)) in
      let s : shown (held bs) ≡ bs = rw t at (shown_held w) in
      rw (k, t) s

-- what comes apart makes what it came from
pub parted_and_made : (w : ℕ) → plate_key w ≡ true → plate_made (shown (held (plate_text w))) ≡ Ok w
parted_and_made w k =
    let small : w < 72057594037927936 = grind (arith, nat_tests, k) in
    rw (shown_held w) (grind (arith, nat_tests, k, word_back 7 w small))
