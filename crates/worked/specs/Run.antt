-- What a script gives, line after line, by the definitions of keys, memory and protocol.
use Rattle.std.specs.Prelude.{◌≡◌, ℕ, zero, suc, ◌+◌, cond, List, [], ◌∷◌, map, replicate, Some, None, Ok, Err, Option, Result}
use Rattle.memory.specs.declared.kept.Refusal as memory
use Rattle.memory.specs.Refusals as memory_refusals
use Rattle.memory.specs.Row.{loaded}
use Rattle.keys.specs.declared.refusal.Refusal as keys
use Rattle.keys.specs.Refusals as keys_refusals
use Rattle.keys.specs.PlaceWord.{place_made}
use Rattle.keys.specs.PlateWord.{plate_made}
use Rattle.values.specs.ValueWord.{value_of}
use Rattle.protocol.specs.declared.numbers.Answer.{Answer}
use Rattle.protocol.specs.declared.numbers.Refusal.{Refusal}
use Rattle.protocol.specs.declared.table.Phase.{Phase}
use Rattle.protocol.specs.declared.table.Split.{Split}
use Rattle.protocol.specs.declared.table.Table.{Table}
use Rattle.protocol.specs.Numbers.{operation_number, answer_number, refusal_number}
use Rattle.protocol.specs.Layout.{key_at, value_at, page_count}
use Rattle.protocol.specs.Layout as layout
use Rattle.protocol.specs.Fields as fields
use Rattle.protocol.specs.Search.{live}
use Rattle.protocol.specs.Make.{closed_table}
use Rattle.protocol.specs.Calls.{Said, made, rebuilt, begun, stepped, collected}
use Rattle.worked.specs.Script.{Call, Outcome, Line, Kind, Example, bay, plate, precedes, make, rebuild, begin, step, collect, cut, word, book, split, ok, refused, number, test, answer, pairs, phase, ◌gives◌}

-- The row, which outlives a cut, and the table, which does not.
pub record World : Type 0 where
  pub row : List ℕ
  pub table : Table

-- A key that is made gives its word.
abbrev pub key_outcome : Result ℕ keys.Refusal → Outcome
key_outcome (Ok w) = number w
key_outcome (Err e) = refused (keys_refusals.refusal_number e)

-- A load gives the word.
abbrev pub word_outcome : Result ℕ memory.Refusal → Outcome
word_outcome (Ok w) = number w
word_outcome (Err e) = refused (memory_refusals.refusal_number e)

-- An accepted call gives nothing more.
abbrev pub said_outcome : Said → Outcome
said_outcome (Ok u) = ok
said_outcome (Err e) = refused (refusal_number e)

-- A collect gives the answer and its value.
abbrev pub answer_outcome : Result (Answer × ℕ) Refusal → Outcome
answer_outcome (Ok a) = answer (answer_number a.0) a.1
answer_outcome (Err e) = refused (refusal_number e)

-- After a call that gives row and table anew.
abbrev pub anew : List ℕ × Table × Said → World × Outcome
anew x = (record { row = x.0; table = x.1 }, said_outcome x.2)

-- After a call that gives the table anew and leaves the row.
abbrev pub table_anew : List ℕ → Table × Said → World × Outcome
table_anew ws x = (record { row = ws; table = x.0 }, said_outcome x.1)

-- After a collect, which leaves the row.
abbrev pub table_answered : List ℕ → Table × Result (Answer × ℕ) Refusal → World × Outcome
table_answered ws x = (record { row = ws; table = x.0 }, answer_outcome x.1)

-- So many steps of a runner, with what the last one gives. (Once a step is refused, the later ones are as well.)
unfoldable pub steps : Kind → World → ℕ → ℕ → World × Outcome
steps k w r zero = (w, ok)
steps k w r (suc n) = let x = (steps k w r n).0 in anew (stepped k.before x.row x.table r)

-- The pairs of page p in the n slots from slot s on, then those after it. A slot has a pair if it is committed and its key is not 0.
unfoldable pub page_pairs : List ℕ → ℕ → ℕ → ℕ → ℕ → List (ℕ × ℕ × ℕ) → List (ℕ × ℕ × ℕ)
page_pairs ws bits p s zero after = after
page_pairs ws bits p s (suc n) after =
    let later = page_pairs ws bits p (s + 1) n after in
    cond (live ws bits p s) ((p, layout.word ws (key_at p s), value_of (layout.word ws (value_at p s))) ∷ later) later

-- The pairs of n listed pages from page p on; page 0, which comes after the last, has none.
unfoldable pub list_pairs : List ℕ → Table → ℕ → ℕ → List (ℕ × ℕ × ℕ)
list_pairs ws t p zero = []
list_pairs ws t p (suc n) = page_pairs ws (fields.page_at t p).committed p 0 8 (list_pairs ws t (fields.page_at t p).next n)

-- The pairs of the book.
abbrev pub book_pairs : List ℕ → Table → List (ℕ × ℕ × ℕ)
book_pairs ws t = list_pairs ws t t.first (page_count ws)

-- The phase of a split.
abbrev pub phase_of : Option Split → Option Phase
phase_of None = None
phase_of (Some s) = Some (fields.phase s.progress)

-- What a call gives, and the world after it.
abbrev pub asked : Kind → World → Call → World × Outcome
asked k w (bay l z p) = (w, key_outcome (place_made (record { level = l; zone = z; place = p })))
asked k w (plate bs) = (w, key_outcome (plate_made bs))
asked k w (precedes a b) = (w, test (k.before a b))
asked k w (make n) = anew (made w.row w.table n)
asked k w (rebuild n) = table_anew w.row (rebuilt k.key k.before w.row w.table n)
asked k w (begin r o j v) = table_anew w.row (begun k.key w.table r (operation_number o) j v)
asked k w (step r n) = steps k w r n
asked k w (collect r) = table_answered w.row (collected w.table r)
asked k w cut = (record { row = w.row; table = closed_table }, ok)
asked k w (word a) = (w, word_outcome (loaded w.row a))
asked k w book = (w, pairs (book_pairs w.row w.table))
asked k w split = (w, phase (phase_of w.table.split))

-- What each line of a script gives.
unfoldable pub given : Kind → World → List Line → List Outcome
given k w [] = []
given k w (c gives o ∷ ls) = let x = asked k w c in x.1 ∷ given k x.0 ls

-- What each line of a script must give.
unfoldable pub told : List Line → List Outcome
told [] = []
told (c gives o ∷ ls) = o ∷ told ls

-- What an example gives. It begins with no book open, over a row in which 7 stands everywhere: make does not mind what it finds.
abbrev pub example_gives : Example → List Outcome
example_gives e = given e.kind (record { row = replicate e.words 7; table = closed_table }) e.script

-- What its lines say that they give.
abbrev pub example_tells : Example → List Outcome
example_tells e = told e.script

-- Every line of every example gives what it must.
abbrev pub AllHold : List Example → Type 0
AllHold es = map example_gives es ≡ map example_tells es
