-- Whether a process can terminate, by the test and by the steps.
use Rattle.std.proofs.Common.{◌≡◌, true, inl, inr, refl}
use Rattle.term.specs.Proc.{Proc, stop, skip, prefix, ext, int, seq, par, hide, ren, intr, name}
use Rattle.term.specs.SameLaws.{and-cases}
use Rattle.term.specs.Steps.{is_skip, Ticks, t-skip, t-ext-l, t-ext-r, t-par, t-hide, t-ren, t-intr-l, t-intr-r}
use Rattle.term.proofs.Bools.{or-cases, or-left, or-right}
use Rattle.term.proofs.Decide.{skips-tick}
use Rattle.targets.specs.Targets.{ticks}

pub ticks-Ticks : (P : Proc) → ticks P ≡ true → Ticks P
ticks-Ticks stop e = absurd (cc)
ticks-Ticks skip e = t-skip
ticks-Ticks (prefix a P) e = absurd (cc)
ticks-Ticks (ext P Q) e = elim (or-cases (ticks P) (ticks Q) e) [ inl h ↦ t-ext-l (ticks-Ticks P h) | inr h ↦ t-ext-r (ticks-Ticks Q h) ]
ticks-Ticks (int P Q) e = absurd (cc)
ticks-Ticks (seq P Q) e = absurd (cc)
ticks-Ticks (par A P Q) e = let (f, g) = and-cases (is_skip P) (is_skip Q) e in skips-tick P Q f g
ticks-Ticks (hide A P) e = t-hide (ticks-Ticks P e)
ticks-Ticks (ren R P) e = t-ren (ticks-Ticks P e)
ticks-Ticks (intr P Q) e = elim (or-cases (ticks P) (ticks Q) e) [ inl h ↦ t-intr-l (ticks-Ticks P h) | inr h ↦ t-intr-r (ticks-Ticks Q h) ]
ticks-Ticks (name k) e = absurd (cc)

pub Ticks-ticks : {P : Proc} → Ticks P → ticks P ≡ true
Ticks-ticks t-skip = refl
Ticks-ticks (t-ext-l {P = P} {Q = Q} t) = or-left (ticks P) (ticks Q) (Ticks-ticks t)
Ticks-ticks (t-ext-r {P = P} {Q = Q} t) = or-right (ticks P) (ticks Q) (Ticks-ticks t)
Ticks-ticks t-par = refl
Ticks-ticks (t-hide t) = Ticks-ticks t
Ticks-ticks (t-ren t) = Ticks-ticks t
Ticks-ticks (t-intr-l {P = P} {Q = Q} t) = or-left (ticks P) (ticks Q) (Ticks-ticks t)
Ticks-ticks (t-intr-r {P = P} {Q = Q} t) = or-right (ticks P) (ticks Q) (Ticks-ticks t)
