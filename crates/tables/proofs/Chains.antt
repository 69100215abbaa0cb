-- Chains of tests as code takes them, over `&&`: a test that passes hands on to the rest, one that fails ends the chain with false.
use mathlib.Core.Path.{◌≡◌, sym, ◌∙◌}
use mathlib.Core.Bool.{Bool, true, false, not, ◌&&◌}
use borrow.Author.Tests.{not-true, not-false}

pub pass : {t r b : Bool} → t ≡ true → b ≡ r → b ≡ t && r
pass e h = rw e h

pub stop : {t : Bool} (r : Bool) → t ≡ false → false ≡ t && r
stop r e = rw e

-- what a call's answer says of the test that it answers, after `if !f(..)`
pub passed : {r t : Bool} → r ≡ t → not r ≡ false → t ≡ true
passed {r} e h = sym e ∙ not-false r h

pub failed : {r t : Bool} → r ≡ t → not r ≡ true → t ≡ false
failed {r} e h = sym e ∙ not-true r h
