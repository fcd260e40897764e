use Rattle.std.proofs.Common.{◌≡◌, ℕ, ◌+◌, ◌∙◌, List, [], ◌∷◌, ◌++◌, decimal, append_assoc}
use Rattle.answers.specs.Line.{words}
use Rattle.answers.proofs.Texts.{Begun, begun_more, begun_all}
use Rattle.answers.proofs.line.AnswerLine.put_line.Goals as goal

-- the five texts, one after another
joined : (a : ℕ) (ws ds : List ℕ) → ((((a ∷ 32 ∷ []) ++ ws) ++ (32 ∷ [])) ++ ds) ++ (10 ∷ []) ≡ a ∷ 32 ∷ (ws ++ (32 ∷ (ds ++ (10 ∷ []))))
joined a ws ds = simp append_assoc

pub returns-clause-after : goal.returns-clause-after
returns-clause-after c =
    let l = c.args.self in
    let b1 : Begun c.args.buffer.now c.put-at.result ((48 + l.runner) ∷ 32 ∷ []) c.put-at.new.buffer =
    record { place = c.put-at.ensures.value; holds = c.put-at.ensures.after } in
    let e = c.as_bytes.ensures.value ∙ c.requires.words in
    let b2 = begun_more (words l.answer) b1 (rw e at c.put-at-2.ensures.value) (rw e at c.put-at-2.ensures.after) in
    let b3 = begun_more (32 ∷ []) b2 c.put-at-3.ensures.value c.put-at-3.ensures.after in
    let d = c.as_bytes-digits.ensures.value ∙ c.format.ensures.text in
    let b4 = begun_more (decimal l.value) b3 (rw d at c.put-at-4.ensures.value) (rw d at c.put-at-4.ensures.after) in
    let b5 = begun_more (10 ∷ []) b4 c.put.ensures.value c.put.ensures.after in
    begun_all (rw (joined (48 + l.runner) (words l.answer) (decimal l.value)) at b5)
