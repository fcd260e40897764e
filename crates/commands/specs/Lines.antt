-- The lines of a script. The first word says what is asked for; the words after it are numbered from 0 here, and `rest` has them.
use Rattle.std.specs.Prelude.{ℕ, ◌-◌, cond, ◌||◌, List, length, is_some, Some, None, codes, Option, ◌==◌}
use Rattle.std.specs.Str.{bytes_eq}
use Rattle.commands.specs.Keys.{key_read}
use Rattle.commands.specs.Numbers.{number_read}
use Rattle.commands.specs.Texts.{first_word, after_word, word, stripped}
use Rattle.commands.specs.declared.command.Backing.{Backing}
use Rattle.commands.specs.declared.command.Backing.TheVariants.{Words, Bytes}
use Rattle.commands.specs.declared.command.Kind.{Kind}
use Rattle.commands.specs.declared.command.Kind.TheVariants.{Place, Plate}
use Rattle.commands.specs.declared.command.Command.{Command}
use Rattle.commands.specs.declared.command.Command.TheVariants as command

-- Goes on with what was read, if it could be read.
abbrev pub on : {X Y : Type 0} → Option X → (X → Option Y) → Option Y
on None f = None
on (Some x) f = f x

-- The line has just n words more.
abbrev pub ending : {X : Type 0} → ℕ → List ℕ → Option X → Option X
ending n rest x = cond (length (word n rest) == 0) x None

-- A number below 2 ^ 32, and one below 2 ^ 64.
abbrev pub half_read : List ℕ → Option ℕ
half_read text = number_read text 4294967295

abbrev pub whole_read : List ℕ → Option ℕ
whole_read text = number_read text 18446744073709551615

-- A number that may be left out.
abbrev pub half_or : List ℕ → ℕ → Option ℕ
half_or text absent = cond (length text == 0) (Some absent) (half_read text)

abbrev pub backing_read : List ℕ → Option Backing
backing_read text = cond (bytes_eq text (codes "words")) (Some Words) (cond (bytes_eq text (codes "bytes")) (Some Bytes) None)

abbrev pub kind_read : List ℕ → Option Kind
kind_read text = cond (bytes_eq text (codes "place")) (Some Place) (cond (bytes_eq text (codes "plate")) (Some Plate) None)

-- An operation goes by its name or its number.
abbrev pub operation_read : List ℕ → Option ℕ
operation_read text =
    cond (bytes_eq text (codes "enter")) (Some 1) (cond (bytes_eq text (codes "change")) (Some 2)
    (cond (bytes_eq text (codes "remove")) (Some 3) (cond (bytes_eq text (codes "look")) (Some 4) (half_read text))))

-- memory BACKING N, at most 1000000
abbrev pub memory_line : List ℕ → Option Command
memory_line rest = ending 2 rest (on (backing_read (word 0 rest)) (λ b. on (number_read (word 1 rest) 1000000) (λ n. Some (command.Memory b n))))

-- kind KIND
abbrev pub kind_line : List ℕ → Option Command
kind_line rest = ending 1 rest (on (kind_read (word 0 rest)) (λ k. Some (command.Kind k)))

-- R alone
abbrev pub runner_line : List ℕ → Option ℕ
runner_line rest = ending 1 rest (half_read (word 0 rest))

-- begin R OP KEY [VALUE]
abbrev pub begin_line : List ℕ → Option Command
begin_line rest =
    ending 4 rest (on (half_read (word 0 rest)) (λ r. on (operation_read (word 1 rest)) (λ o. on (key_read (word 2 rest)) (λ k.
    on (half_or (word 3 rest) 0) (λ v. Some (command.Begin r o k v))))))

-- step R [TIMES]
abbrev pub step_line : List ℕ → Option Command
step_line rest = ending 2 rest (on (half_read (word 0 rest)) (λ r. on (half_or (word 1 rest) 1) (λ n. Some (command.Step r n))))

-- collect R
abbrev pub collect_line : List ℕ → Option Command
collect_line rest = ending 1 rest (on (half_read (word 0 rest)) (λ r. Some (command.Collect r (length (word 0 rest) - 1))))

-- cut, cut before R, cut after R
abbrev pub cut_line : List ℕ → Option Command
cut_line rest =
    cond (length (word 0 rest) == 0) (Some command.Cut) (ending 2 rest (on (half_read (word 1 rest)) (λ r.
    cond (bytes_eq (word 0 rest) (codes "before")) (Some command.Cut) (cond (bytes_eq (word 0 rest) (codes "after")) (Some (command.CutAfter r)) None))))

-- set I WORD
abbrev pub set_line : List ℕ → Option Command
set_line rest = ending 2 rest (on (whole_read (word 0 rest)) (λ i. on (whole_read (word 1 rest)) (λ w. Some (command.Set i w))))

-- word I
abbrev pub word_line : List ℕ → Option Command
word_line rest = ending 1 rest (on (whole_read (word 0 rest)) (λ i. Some (command.Word i)))

-- pairs, show
abbrev pub bare_line : List ℕ → List ℕ → Option Command
bare_line name rest =
    ending 0 rest (cond (bytes_eq name (codes "pairs")) (Some command.Pairs) (cond (bytes_eq name (codes "show")) (Some command.Show) None))

-- What a line asks for, by its first word.
abbrev pub line_of : List ℕ → List ℕ → Option Command
line_of name rest =
    cond (bytes_eq name (codes "memory")) (memory_line rest)
    (cond (bytes_eq name (codes "kind")) (kind_line rest)
    (cond (bytes_eq name (codes "make")) (on (runner_line rest) (λ r. Some (command.Make r)))
    (cond (bytes_eq name (codes "rebuild")) (on (runner_line rest) (λ r. Some (command.Rebuild r)))
    (cond (bytes_eq name (codes "begin")) (begin_line rest)
    (cond (bytes_eq name (codes "step")) (step_line rest)
    (cond (bytes_eq name (codes "finish")) (on (runner_line rest) (λ r. Some (command.Finish r)))
    (cond (bytes_eq name (codes "collect")) (collect_line rest)
    (cond (bytes_eq name (codes "cut")) (cut_line rest)
    (cond (bytes_eq name (codes "set")) (set_line rest)
    (cond (bytes_eq name (codes "word")) (word_line rest) (bare_line name rest)))))))))))

-- A line without words, or one that begins with a #, asks for nothing. A line that cannot be read gives nothing at all.
unfoldable pub line_read : List ℕ → Option Command
line_read line =
    cond (length (first_word line) == 0 || is_some (stripped 35 line)) (Some command.Nothing) (line_of (first_word line) (after_word line))
