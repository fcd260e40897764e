use Rattle.std.proofs.Common.{◌≡◌, ◌-◌}
use Rattle.protocol.specs.Search.{cover_from}
use Rattle.search.proofs.view.View.covering_page.Given as goal

abbrev pub invariant-loop-i : goal.invariant-loop-i
invariant-loop-i g l =
    cover_from g.K.KeyKind.before (g.M.KeptMemory.words l.self.memory.now) l.self.table.now l.key l.self.table.now.first 64
    ≡ cover_from g.K.KeyKind.before (g.M.KeptMemory.words l.self.memory.now) l.self.table.now l.key l.page (64 - l._i)
