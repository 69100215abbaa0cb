-- `paper::head::read_head` meets its contract: at each exit the tests passed so far, and the one that failed, say what the line tells.
use mathlib.Core.Path.{◌≡◌, sym, ◌∙◌}
use mathlib.Core.Bool.{true}
use mathlib.Core.List.{List}
use Prim.Native.Nat.{ℕ, ◌≤◌}
use native.Mathlib.Omega.{arith}
use borrow.Author.Rules.{rules}
use lib.ListN.{length}
use Rattle.text.specs.Literal.{bytes}
use Rattle.text.specs.Bytes.{starts_with, find_from}
use Rattle.text.proofs.Finds.{find_ge, find_le}
use Rattle.text.proofs.Words.{starts_long}
use Rattle.paper.proofs.Heads.{span_room, other_verdict, no_scale, no_span, no_number, head_there}
use Rattle.paper.proofs.head.read_head.Goals as goal

-- the blank behind the word of the scale lies within the line
blank_within : (line : List ℕ) (blank : ℕ) → starts_with line (bytes "verdict 0 line 0 scale ") ≡ true → blank ≡ find_from 32 line 23 → (23 ≤ blank) × (blank ≤ length line)
blank_within line blank e f =
    let h = starts_long line (bytes "verdict 0 line 0 scale ") e in
    (rw f (find_ge 32 line 23), rw f (find_le 32 line 23 (length line) (omega arith) h))

-- ---- the exits
pub returns-then-not-starts : goal.returns-then-not-starts
returns-then-not-starts c = other_verdict _ (sym c.starts.ensures ∙ c.if-not-starts.true)

pub slice_bounds-scale_of-count : goal.slice_bounds-scale_of-count
slice_bounds-scale_of-count c = (blank_within _ _ (sym c.starts.ensures ∙ c.if-not-starts.false) c.find-blank.ensures).0

pub slice_bounds-scale_of-start : goal.slice_bounds-scale_of-start
slice_bounds-scale_of-start c = let h = blank_within c.args.line.now c.find-blank.result (sym c.starts.ensures ∙ c.if-not-starts.false) c.find-blank.ensures in search rules

pub slice_bounds-scale_of-end : goal.slice_bounds-scale_of-end
slice_bounds-scale_of-end c = let h = blank_within c.args.line.now c.find-blank.result (sym c.starts.ensures ∙ c.if-not-starts.false) c.find-blank.ensures in search rules

pub returns-in_err-named : goal.returns-in_err-named
returns-in_err-named c = c.from_residual.ensures ∙ no_scale _ (sym c.starts.ensures ∙ c.if-not-starts.false) _ c.find-blank.ensures _ c.scale_of.ensures c.in_err-named.was

pub slice_bounds-starts-count : goal.slice_bounds-starts-count
slice_bounds-starts-count c = (blank_within _ _ (sym c.starts.ensures ∙ c.if-not-starts.false) c.find-blank.ensures).1

pub slice_bounds-starts-start : goal.slice_bounds-starts-start
slice_bounds-starts-start c = let h = blank_within c.args.line.now c.find-blank.result (sym c.starts.ensures ∙ c.if-not-starts.false) c.find-blank.ensures in search rules

pub returns-then-not-starts-2 : goal.returns-then-not-starts-2
returns-then-not-starts-2 c = no_span _ (sym c.starts.ensures ∙ c.if-not-starts.false) _ c.find-blank.ensures _ c.scale_of.ensures _ c.in_ok-named.was (sym c.starts-2.ensures ∙ c.if-not-starts-2.true)

pub overflow_add-blank : goal.overflow_add-blank
overflow_add-blank c = let h = span_room c.args.line.now c.find-blank.result (sym c.starts-2.ensures ∙ c.if-not-starts-2.false) in search rules

pub slice_bounds-read_number-count : goal.slice_bounds-read_number-count
slice_bounds-read_number-count c = span_room c.args.line.now c.find-blank.result (sym c.starts-2.ensures ∙ c.if-not-starts-2.false)

pub slice_bounds-read_number-start : goal.slice_bounds-read_number-start
slice_bounds-read_number-start c = let h = span_room c.args.line.now c.find-blank.result (sym c.starts-2.ensures ∙ c.if-not-starts-2.false) in search rules

pub returns-in_err-span : goal.returns-in_err-span
returns-in_err-span c = c.from_residual-in_err-span.ensures ∙ no_number _ (sym c.starts.ensures ∙ c.if-not-starts.false) _ c.find-blank.ensures _ c.scale_of.ensures _ c.in_ok-named.was (sym c.starts-2.ensures ∙ c.if-not-starts-2.false) _ c.read_number.ensures c.in_err-span.was

pub returns : goal.returns
returns c = rw c.scale_number.ensures (head_there _ (sym c.starts.ensures ∙ c.if-not-starts.false) _ c.find-blank.ensures _ c.scale_of.ensures _ c.in_ok-named.was (sym c.starts-2.ensures ∙ c.if-not-starts-2.false) _ c.read_number.ensures _ c.in_ok-span.was)
