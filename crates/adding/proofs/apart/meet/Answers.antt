use mathlib.Core.Path.{sym, ◌∙◌}
use borrow.Author.Rules.{rules}
use Rattle.paper.specs.Lines.{name_at}
use Rattle.adding.proofs.Compared.{compared}
use Rattle.adding.proofs.Meets.{second_done, meets_one, meets_left, meets_right}
use Rattle.adding.proofs.apart.meet.Goals as goal

pub loop-i-preserved-in-Less : goal.loop-i-preserved-in-Less
loop-i-preserved-in-Less c =
    let a = c.args in (
      search rules,
      search rules,
      c.loop-i.invariant.2
          ∙ meets_left (name_at a.s.now) (name_at a.t.now) a.left.now a.right.now c.loop-i.i c.loop-i.j c.requires.0 c.requires.1 (search rules) (search rules)
          (compared c.compare.ensures c.name_at.ensures c.name_at-in-loop-i.ensures) c.in-Less.is,
    )

pub returns-in-Equal : goal.returns-in-Equal
returns-in-Equal c =
    let a = c.args in
    sym
    (c.loop-i.invariant.2
    ∙ meets_one (name_at a.s.now) (name_at a.t.now) a.left.now a.right.now c.loop-i.i c.loop-i.j c.requires.0 c.requires.1 (search rules) (search rules)
    (compared c.compare.ensures c.name_at.ensures c.name_at-in-loop-i.ensures) c.in-Equal.is)

pub loop-i-preserved : goal.loop-i-preserved
loop-i-preserved c =
    let a = c.args in (
      search rules,
      search rules,
      c.loop-i.invariant.2
          ∙ meets_right (name_at a.s.now) (name_at a.t.now) a.left.now a.right.now c.loop-i.i c.loop-i.j c.requires.0 c.requires.1 (search rules) (search rules)
          (compared c.compare.ensures c.name_at.ensures c.name_at-in-loop-i.ensures) c.in-Greater.is,
    )

pub returns-else-j-right : goal.returns-else-j-right
returns-else-j-right c =
    let a = c.args in
    sym (c.loop-i.invariant.2 ∙ second_done (name_at a.s.now) (name_at a.t.now) a.left.now a.right.now c.loop-i.i c.loop-i.j (search rules))
