-- Of two answers that each carry a pair and are the same, the parts are the same.
use Rattle.std.proofs.Common.{◌≡◌, Option, Some, ap}

pub same_parts : {A B : Type 0} {a c : A} {b d : B} → ◌≡◌ {A = Option (A × B)} (Some (a, b)) (Some (c, d)) → (a ≡ c) × (b ≡ d)
same_parts {A} {B} {a} {c} {b} {d} q =
    let w : ◌≡◌ {A = A × B} (a, b) (c, d) = cc in
    (ap (λ (p : A × B). p.0) w, ap (λ (p : A × B). p.1) w)
