-- A page record and the row that it is made from.
use Rattle.std.specs.Prelude.{ℕ, ◌+◌, ◌^◌, cond, bit_or, nat_lt}
use Rattle.protocol.specs.declared.table.PageRow.{PageRow}
use Rattle.protocol.specs.declared.record.PageRecord.{PageRecord}

-- The numbers of a record.
abbrev pub numbers_of : PageRecord → ℕ × ℕ
numbers_of p = (p.taken, p.committed)

-- One more slot is taken, if there is one.
abbrev pub numbers_taken : ℕ × ℕ → ℕ × ℕ
numbers_taken n = cond (nat_lt n.0 8) (n.0 + 1, n.1) n

-- A slot is committed, if it is taken.
abbrev pub numbers_committed : ℕ × ℕ → ℕ → ℕ × ℕ
numbers_committed n s = cond (nat_lt s n.0) (n.0, bit_or n.1 (2 ^ s)) n

-- A row with a record's numbers; its place in the list stays.
abbrev pub with_numbers : PageRow → ℕ × ℕ → PageRow
with_numbers p n = record { listed = p.listed; next = p.next; taken = n.0; committed = n.1 }
