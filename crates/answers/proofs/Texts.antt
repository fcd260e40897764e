-- Text put into a buffer piece by piece.
use Rattle.std.proofs.Common.{◌≡◌, ℕ, ◌+◌, ◌≤◌, List, ◌++◌, length, drop, sym, refl, zero-add, arith, length-append}
use lib.Seq.{paste}
use Rattle.std.proofs.lemmas.List.Edits.{paste_all, paste-paste}
use Rattle.answers.specs.Put.{with_text}

with_text_paste : (bytes : List ℕ) (at : ℕ) (s : List ℕ) → with_text bytes at s ≡ paste bytes at s (length s)
unfolding with_text
with_text_paste bytes at s = sym (paste_all bytes at s (length s) refl)

-- one text after another is both in one
pub with_text_more : (bytes : List ℕ) (at : ℕ) (s t : List ℕ) (k : ℕ) → at ≤ length bytes → k ≡ at + length s → with_text (with_text bytes at s) k t ≡ with_text bytes at (s ++ t)
with_text_more bytes at s t k h e =
    rw (e, with_text_paste bytes at s, with_text_paste _ (at + length s) t, with_text_paste bytes at (s ++ t), length-append s t)
    (paste-paste bytes at s t (length s) (length t) refl refl h)

-- `bytes` with a text of `k` bytes at the beginning is `after`
pub record Begun (bytes : List ℕ) (k : ℕ) (text after : List ℕ) : Type 0 where
  pub place : k ≡ length text
  pub holds : after ≡ with_text bytes 0 text

-- the next text goes where the last one ended
pub begun_more : {bytes text after after' : List ℕ} {k k' : ℕ} (t : List ℕ) → Begun bytes k text after → k' ≡ k + length t → after' ≡ with_text after k t → Begun bytes k' (text ++ t) after'
begun_more {bytes} {text} {k = k} t b e h =
    let m = with_text_more bytes 0 text t k (omega arith) (omega (arith, b.place)) in
    record { place = rw (length-append text t) (omega (arith, b.place)); holds = cc (m, b.holds) }

pub begun_all : {bytes text after : List ℕ} {k : ℕ} → Begun bytes k text after → after ≡ text ++ drop (length text) bytes
unfolding with_text
begun_all {text} b = rw (zero-add (length text)) at b.holds
