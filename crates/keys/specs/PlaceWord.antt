-- Places as words: the level mod 256 in the byte from 2 ^ 24, the zone in the byte from 2 ^ 16, the place in the 16 bits below.
use Rattle.std.specs.Prelude.{ℕ, ◌+◌, ◌-◌, ◌*◌, ◌/◌, ◌%◌, ◌^◌, Bool, true, false, cond, ◌&&◌, ℤ, pos, negsuc, Ok, Err, Result, int_le, int_lt, nat_le, nat_lt}
use Rattle.keys.specs.declared.refusal.Refusal.{Refusal}
use Rattle.keys.specs.declared.refusal.Refusal.TheVariants.{NotAKey, NoSuchLevel, NoSuchZone, NoSuchPlace}
use Rattle.keys.specs.declared.place.PlaceParts.{PlaceParts}

-- A level is -20 to 50.
abbrev pub level_good : ℤ → Bool
level_good l = int_le (negsuc 19) l && int_le l (pos 50)

-- A zone is 1 to 26.
abbrev pub zone_good : ℕ → Bool
zone_good z = nat_le 1 z && nat_le z 26

-- A place is 1 to 9999.
abbrev pub place_good : ℕ → Bool
place_good p = nat_le 1 p && nat_le p 9999

-- A level mod 256: -1 is 255.
abbrev pub level_byte : ℤ → ℕ
level_byte (pos n) = n % 256
level_byte (negsuc n) = 255 - n % 256

-- The level from -128 to 127 that a byte stands for: 255 is -1.
abbrev pub byte_level : ℕ → ℤ
byte_level b = cond (nat_lt b 128) (pos b) (negsuc (255 - b))

-- The word of a place.
abbrev pub place_word : PlaceParts → ℕ
place_word p = level_byte p.level * 16777216 + p.zone * 65536 + p.place

-- The parts that stand in the low 32 bits of a word.
abbrev pub parts_of : ℕ → PlaceParts
parts_of w = record { level = byte_level (w / 16777216 % 256); zone = w / 65536 % 256; place = w % 65536 }

-- A word of 32 bits is a key when each of its parts is good.
abbrev pub place_key : ℕ → Bool
place_key w = nat_lt w (2 ^ 32) && level_good (parts_of w).level && zone_good (parts_of w).zone && place_good (parts_of w).place

-- Parts are ordered by signed level, then by zone, then by place.
abbrev pub parts_before : PlaceParts → PlaceParts → Bool
parts_before p q =
    cond (int_lt p.level q.level) true (cond (int_lt q.level p.level) false
    (cond (nat_lt p.zone q.zone) true (cond (nat_lt q.zone p.zone) false
    (nat_lt p.place q.place))))

-- Words are ordered as their parts are.
abbrev pub place_before : ℕ → ℕ → Bool
place_before a b = parts_before (parts_of a) (parts_of b)

-- Good parts make their word; else the first bad one of level, zone and place is refused.
abbrev pub place_made : PlaceParts → Result ℕ Refusal
place_made p =
    cond (level_good p.level) (cond (zone_good p.zone) (cond (place_good p.place)
    (Ok (place_word p)) (Err NoSuchPlace)) (Err NoSuchZone)) (Err NoSuchLevel)

-- A key gives its parts back, and any other word is refused.
abbrev pub place_parts : ℕ → Result PlaceParts Refusal
place_parts w = cond (place_key w) (Ok (parts_of w)) (Err NotAKey)
