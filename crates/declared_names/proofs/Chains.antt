-- What is chained, and what holds of both.
use Rattle.std.proofs.Common.{◌≡◌, Bool, true, false, ◌&&◌, Option, Some, None, refl, ap, ◌∙◌}
use Rattle.values.specs.Values.{◌>>=◌}

pub bind_some : {X Y : Type 0} (o : Option X) (f : X → Option Y) (y : Y) → (o >>= f) ≡ Some y → (x : X) × (o ≡ Some x) × (f x ≡ Some y)
bind_some None f y h = absurd cc
bind_some (Some x) f y h = (x, refl, h)

pub some_same : {X : Type 0} {x y : X} → Some x ≡ Some y → x ≡ y
some_same h = cc

pub left : (b c : Bool) → (b && c) ≡ true → b ≡ true
left true c h = refl
left false c h = absurd cc

pub right : (b c : Bool) → (b && c) ≡ true → c ≡ true
right true c h = h
right false c h = absurd cc

pub both : (b c : Bool) → b ≡ true → c ≡ true → (b && c) ≡ true
both b c h k = ap (λ x. x && c) h ∙ k
