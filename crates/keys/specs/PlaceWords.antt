-- Places as words: their order is that of a number, and they come apart into what they were made of.
use Rattle.std.specs.Prelude.{◌≡◌, ℕ, ◌+◌, ◌*◌, ◌/◌, ◌%◌, ◌^◌, ◌<◌, true, ℤ, Ok, FitsSigned, bit_or, int_lt, nat_lt, refl}
use Rattle.std.proofs.Common.{ap, ◌∙◌, arith, to_z, of_z}
use Rattle.std.specs.Int.{w8}
use Rattle.std.proofs.lemmas.Nat.{or_shifted}
use Rattle.std.proofs.lemmas.Int.{ints}
use Rattle.std.proofs.lemmas.Bool.Decides.{nat_tests}
use Rattle.keys.specs.Order.{Lawful}
use Rattle.keys.specs.PlaceWord.{level_good, zone_good, place_good, level_byte, byte_level, place_word, place_key, place_before, place_made, place_parts}
use Rattle.keys.specs.declared.place.PlaceParts.{PlaceParts}
use Rattle.keys.specs.Ranks.{lawful_by_rank}

-- the byte of a level, turned by 128 so that it grows with the level
abbrev turned : ℕ → ℕ
turned b = (b + 128) % 256

levels_turned : (x y : ℕ) → x < 256 → y < 256 → int_lt (byte_level x) (byte_level y) ≡ nat_lt (turned x) (turned y)
levels_turned x y hx hy = grind (arith, nat_tests)

abbrev rank : ℕ → ℕ
rank w = turned (w / 16777216 % 256) * 16777216 + w % 16777216

by_rank : (a b : ℕ) → place_before a b ≡ nat_lt (rank a) (rank b)
by_rank a b = grind (arith, nat_tests)

-- a place key has 32 bits
key_small : (w : ℕ) → place_key w ≡ true → w < 4294967296
key_small w h = grind (arith, nat_tests)

one_rank : (a b : ℕ) → place_key a ≡ true → place_key b ≡ true → rank a ≡ rank b → a ≡ b
one_rank a b ka kb e = omega (arith, key_small a ka, key_small b kb)

pub places_lawful : Lawful place_key place_before
places_lawful = lawful_by_rank place_key place_before rank refl by_rank one_rank

-- a byte read as a signed number is the level that it stands for
pub signed_byte : (b : ℕ) → b < 256 → to_z w8 b ≡ byte_level b
signed_byte b h = grind (arith, nat_tests)

-- a good level fits a byte, and comes back from it
pub level_fits : (l : ℤ) → level_good l ≡ true → FitsSigned w8 l
level_fits l h = grind (arith, ints)

pub level_bits : (l : ℤ) → level_good l ≡ true → of_z w8 l ≡ level_byte l
level_bits l h = grind (arith, ints)

level_back : (l : ℤ) → level_good l ≡ true → byte_level (level_byte l) ≡ l
level_back l h = grind (arith, ints)

-- each part has its own bits in the word
level_small : (l : ℤ) → level_byte l < 256
level_small l = grind (arith, ints)

pub zone_small : (z : ℕ) → zone_good z ≡ true → z < 256
zone_small z h = grind (arith, nat_tests)

pub place_small : (p : ℕ) → place_good p ≡ true → p < 65536
place_small p h = grind (arith, nat_tests)

pub joined_bits : (u z p : ℕ) → u < 256 → z < 256 → p < 65536
    → bit_or (bit_or (u * 16777216 % 18446744073709551616) (z * 65536 % 18446744073709551616)) p ≡ u * 16777216 + z * 65536 + p
joined_bits u z p hu hz hp =
    let a : u * 16777216 % 18446744073709551616 ≡ u * 2 ^ 24 = omega arith in
    let b : z * 65536 % 18446744073709551616 ≡ z * 65536 = omega arith in
    let c : u * 16777216 + z * 65536 ≡ (u * 256 + z) * 2 ^ 16 = omega arith in
    rw (a, b, or_shifted u 24 (z * 65536) (omega arith), c) (or_shifted (u * 256 + z) 16 p hp)

module _ (p : PlaceParts) (hl : level_good p.level ≡ true) (hz : zone_good p.zone ≡ true) (hp : place_good p.place ≡ true) where
  pub made_of_good : place_made p ≡ Ok (place_word p)
  made_of_good = rw (hl, hz, hp)

  -- what is made comes apart into what it was made of
  pub made_and_parted : place_parts (place_word p) ≡ Ok p
  made_and_parted =
      let el : byte_level (place_word p / 16777216 % 256) ≡ p.level = ap byte_level (omega (arith, level_small p.level, zone_small p.zone hz, place_small p.place hp)) ∙ level_back p.level hl in
      grind (arith, nat_tests, hl, hz, hp, el)
