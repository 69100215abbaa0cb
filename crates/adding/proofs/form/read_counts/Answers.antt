-- `adding::form::read_counts` meets its contract: the lines are counted off as the titles tell.
use Rattle.std.proofs.Common.{Option}
use mathlib.Core.Path.{◌≡◌, sym, ap, ◌∙◌}
use mathlib.Core.List.{List}
use Prim.Native.Nat.{ℕ, ◌-◌, ◌≤◌}
use borrow.Author.Rules.{rules}
use Rattle.bill.specs.declared.section.Section.{Section}
use Rattle.bill.specs.declared.section.Section.TheVariants.{Cores, Processes}
use Rattle.bill.specs.Text.{title}
use Rattle.paper.specs.Heads.{count_of}
use Rattle.adding.proofs.FormTests.{no_cores, cores_told, cores_cut_off, no_processes, processes_told, not_as_told, formed}
use Rattle.adding.proofs.form.read_counts.Goals as goal

-- what was read of a line is its count behind the title
counted : (section : Section) (max : ℕ) {r : Option ℕ} {t line : List ℕ} → r ≡ count_of (title section) t max → t ≡ line → count_of (title section) line max ≡ r
counted section max e f = sym (e ∙ ap (λ l. count_of (title section) l max) f)

-- ---- the exits
pub returns-in_err-first : goal.returns-in_err-first
returns-in_err-first c = rw c.from_residual.ensures (no_cores _ _ _ _ _ c.requires (counted Cores 64 c.in_err-first.ensures c.line_at.ensures))

pub overflow_add-cores : goal.overflow_add-cores
overflow_add-cores c =
    let h : c.in_ok-first.first ≤ 64 = (cores_told _ _ _ _ _ c.requires _ (counted Cores 64 c.in_ok-first.ensures c.line_at.ensures)).few in search rules

pub returns-then-n-cores : goal.returns-then-n-cores
returns-then-n-cores c = cores_cut_off _ _ _ _ _ c.requires _ (counted Cores 64 c.in_ok-first.ensures c.line_at.ensures) c.if-n-cores.true

pub returns-in_err-second : goal.returns-in_err-second
returns-in_err-second c =
    rw c.from_residual-in_err-second.ensures
    (no_processes _ _ _ _ _ c.requires _ (counted Cores 64 c.in_ok-first.ensures c.line_at.ensures) c.if-n-cores.false
    (counted Processes (256 - c.in_ok-first.first) c.in_err-second.ensures c.line_at-title.ensures))

pub overflow_add-cores-4 : goal.overflow_add-cores-4
overflow_add-cores-4 c =
    let first = counted Cores 64 c.in_ok-first.ensures c.line_at.ensures in
    let h : c.in_ok-first.first ≤ 64 = (cores_told _ _ _ _ _ c.requires _ first).few in
    let g : c.in_ok-second.second ≤ 256 - c.in_ok-first.first =
    (processes_told _ _ _ _ _ c.requires _ first c.if-n-cores.false _ (counted Processes (256 - c.in_ok-first.first) c.in_ok-second.ensures c.line_at-title.ensures)).few in
    search rules

pub returns-then-n-cores-2 : goal.returns-then-n-cores-2
returns-then-n-cores-2 c =
    not_as_told _ _ _ _ _ c.requires _ (counted Cores 64 c.in_ok-first.ensures c.line_at.ensures) c.if-n-cores.false _
    (counted Processes (256 - c.in_ok-first.first) c.in_ok-second.ensures c.line_at-title.ensures) c.if-n-cores-2.true

pub returns : goal.returns
returns c =
    formed _ _ _ _ _ c.requires _ (counted Cores 64 c.in_ok-first.ensures c.line_at.ensures) c.if-n-cores.false _
    (counted Processes (256 - c.in_ok-first.first) c.in_ok-second.ensures c.line_at-title.ensures) c.if-n-cores-2.false
