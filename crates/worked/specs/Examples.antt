-- The worked examples. Each is a script: line after line, what is asked and what it gives.
-- The numbers are reckoned from the rules, and not from the definitions that are tried on them.
use Rattle.std.specs.Prelude.{ℕ, ◌+◌, true, false, List, [], ◌∷◌, ◌++◌, pos, Some, None}
use Rattle.protocol.specs.declared.numbers.Operation.TheVariants.{Enter, Remove, Look}
use Rattle.protocol.specs.declared.table.Phase.TheVariants.{Copy, Sync, Link}
use Rattle.worked.specs.Script.{Line, Example, minus, bays, plates, bay, plate, precedes, make, rebuild, begin, step, collect, cut, word, book, split, ok, refused, number, test, answer, pairs, phase, ◌gives◌}

-- Bay (-1, 2, 7) comes before bay (0, 1, 1), though its word is larger. Level -21 is refused, level -20 is not.
abbrev pub bay_keys : Example
bay_keys = record {
  kind = bays;
  words = 0;
  script =
      bay (minus 1) 2 7 gives number 4278321159
      ∷ bay (pos 0) 1 1 gives number 65537
      ∷ precedes 4278321159 65537 gives test true
      ∷ precedes 65537 4278321159 gives test false
      ∷ bay (minus 21) 1 1 gives refused 30
      ∷ bay (minus 20) 1 1 gives number 3959488513
      ∷ [];
}

-- Plate `B` comes before its extension `B7`. (`B` is byte 66, `7` is byte 55.)
abbrev pub plate_keys : Example
plate_keys = record {
  kind = plates;
  words = 0;
  script =
      plate (66 ∷ []) gives number 0x42000000000000
      ∷ plate (66 ∷ 55 ∷ []) gives number 0x42370000000000
      ∷ precedes 0x42000000000000 0x42370000000000 gives test true
      ∷ precedes 0x42370000000000 0x42000000000000 gives test false
      ∷ [];
}

-- A row of 36 words has no room for a book.
abbrev pub one_word_short : Example
one_word_short = record { kind = bays; words = 36; script = make 1 gives refused 1 ∷ [] }

-- A row of 37 words takes a book of two pages, which begins with page 1 and is empty.
abbrev pub two_pages : Example
two_pages = record { kind = bays; words = 37; script = make 1 gives ok ∷ word 0 gives number 1 ∷ book gives pairs [] ∷ [] }

-- The first enter, value 5 for bay (0, 1, 1), has four steps: a slot, its value word (number 1, value 5), its key word, its commit.
abbrev pub first_enter : Example
first_enter = record {
  kind = bays;
  words = 37;
  script =
      make 1 gives ok
      ∷ begin 1 Enter 65537 5 gives ok
      ∷ step 1 2 gives ok ∷ word 4 gives number 4294967301 ∷ word 3 gives number 0
      ∷ step 1 1 gives ok ∷ word 3 gives number 65537 ∷ collect 1 gives refused 18
      ∷ step 1 1 gives ok ∷ collect 1 gives answer 0 0
      ∷ book gives pairs ((1, 65537, 5) ∷ [])
      ∷ [];
}

-- A cut after two of these steps leaves the book empty.
abbrev pub cut_after_two : Example
cut_after_two = record {
  kind = bays;
  words = 37;
  script =
      make 1 gives ok ∷ begin 1 Enter 65537 5 gives ok ∷ step 1 2 gives ok
      ∷ cut gives ok ∷ step 1 1 gives refused 9
      ∷ rebuild 1 gives ok ∷ book gives pairs []
      ∷ [];
}

-- A cut after three of them leaves the pair in it.
abbrev pub cut_after_three : Example
cut_after_three = record {
  kind = bays;
  words = 37;
  script =
      make 1 gives ok ∷ begin 1 Enter 65537 5 gives ok ∷ step 1 3 gives ok
      ∷ cut gives ok
      ∷ rebuild 1 gives ok ∷ book gives pairs ((1, 65537, 5) ∷ [])
      ∷ [];
}

-- The key of bay (0, 1, n).
abbrev pub place : ℕ → ℕ
place n = 65536 + n

-- Page p holds value n for bay (0, 1, n).
abbrev pub on : ℕ → ℕ → ℕ × ℕ × ℕ
on p n = (p, place n, n)

-- Runner 1 enters value n for bay (0, 1, n), where there is room.
abbrev pub enters : ℕ → List Line
enters n = begin 1 Enter (place n) n gives ok ∷ step 1 4 gives ok ∷ collect 1 gives answer 0 0 ∷ []

-- Runner 1 removes bay (0, 1, n).
abbrev pub removes : ℕ → List Line
removes n = begin 1 Remove (place n) 0 gives ok ∷ step 1 2 gives ok ∷ collect 1 gives answer 0 0 ∷ []

-- A new book for so many runners, with its first page full.
abbrev pub full_page : ℕ → List Line
full_page runners =
    make runners gives ok ∷ enters 1 ++ enters 2 ++ enters 3 ++ enters 4 ++ enters 5 ++ enters 6 ++ enters 7 ++ enters 8

-- Eight keys need two new pages. With two pages one is free, and a ninth enter finds no room in its first step.
abbrev pub no_room : Example
no_room = record {
  kind = bays;
  words = 37;
  script =
      full_page 1
      ++ (begin 1 Enter (place 9) 9 gives ok ∷ step 1 1 gives ok ∷ collect 1 gives answer 3 0
      ∷ book gives pairs (on 1 1 ∷ on 1 2 ∷ on 1 3 ∷ on 1 4 ∷ on 1 5 ∷ on 1 6 ∷ on 1 7 ∷ on 1 8 ∷ [])
      ∷ []);
}

-- With three pages the ninth enter splits: step 1 starts the split, step 46 opens sync, step 63 opens link, step 64 stores 2 in the head,
-- step 65 ends the split, and step 69 is the last.
abbrev pub ninth_enter : Example
ninth_enter = record {
  kind = bays;
  words = 55;
  script =
      full_page 1
      ++ (begin 1 Enter (place 9) 9 gives ok
      ∷ step 1 1 gives ok ∷ split gives phase (Some Copy)
      ∷ step 1 44 gives ok ∷ split gives phase (Some Copy)
      ∷ step 1 1 gives ok ∷ split gives phase (Some Sync)
      ∷ step 1 16 gives ok ∷ split gives phase (Some Sync)
      ∷ step 1 1 gives ok ∷ split gives phase (Some Link) ∷ word 0 gives number 1
      ∷ step 1 1 gives ok ∷ split gives phase (Some Link) ∷ word 0 gives number 2
      ∷ step 1 1 gives ok ∷ split gives phase None
      ∷ step 1 3 gives ok ∷ collect 1 gives refused 18
      ∷ step 1 1 gives ok ∷ collect 1 gives answer 0 0
      ∷ book gives pairs (on 2 1 ∷ on 2 2 ∷ on 2 3 ∷ on 2 4 ∷ on 3 5 ∷ on 3 6 ∷ on 3 7 ∷ on 3 8 ∷ on 3 9 ∷ [])
      ∷ []);
}

-- A full page with places 1, 3, 4, 6 and 8 left is split at place 4: two keys go left, three right. The enter that splits it has 54 steps.
abbrev pub five_left : Example
five_left = record {
  kind = bays;
  words = 55;
  script =
      full_page 1 ++ removes 2 ++ removes 5 ++ removes 7
      ++ (begin 1 Enter (place 9) 9 gives ok
      ∷ step 1 53 gives ok ∷ collect 1 gives refused 18
      ∷ step 1 1 gives ok ∷ collect 1 gives answer 0 0
      ∷ word 38 gives number (place 4)
      ∷ book gives pairs (on 2 1 ∷ on 2 3 ∷ on 3 4 ∷ on 3 6 ∷ on 3 8 ∷ on 3 9 ∷ [])
      ∷ []);
}

-- In the sync phase a remove has stored 0 over the old key (word 7), and no more. A look then answers not there, and clears the new key (word 25).
abbrev pub look_in_sync : Example
look_in_sync = record {
  kind = bays;
  words = 55;
  script =
      full_page 3
      ++ (begin 1 Enter (place 9) 9 gives ok ∷ step 1 46 gives ok ∷ split gives phase (Some Sync)
      ∷ begin 2 Remove (place 3) 0 gives ok ∷ step 2 2 gives ok ∷ word 7 gives number 0 ∷ word 25 gives number (place 3)
      ∷ begin 3 Look (place 3) 0 gives ok ∷ step 3 2 gives ok ∷ word 25 gives number 0
      ∷ collect 3 gives answer 2 0 ∷ collect 2 gives refused 18
      ∷ []);
}

-- All of them.
unfoldable pub examples : List Example
examples =
    bay_keys ∷ plate_keys
    ∷ one_word_short ∷ two_pages
    ∷ first_enter ∷ cut_after_two ∷ cut_after_three
    ∷ no_room ∷ ninth_enter ∷ five_left ∷ look_in_sync
    ∷ []
