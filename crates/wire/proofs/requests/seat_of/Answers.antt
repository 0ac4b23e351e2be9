-- A text that isn't read is no seat's: what is read of a decimal text is its number.
use Rattle.std.proofs.Common.{◌≡◌, ℕ, List, decimal, sym, ◌∙◌, ap, subst, arith}
use Rattle.std.specs.Str.{IsAscii}
use Rattle.std.proofs.lemmas.Bool.{true≢false}
use Rattle.std.proofs.lemmas.Bool.Decides.{Decides-eqb}
use Rattle.std.proofs.lemmas.Fmt.{parse-decimal, IsAscii-decimal}
use Rattle.std.proofs.lemmas.Slice.Eq.{slice_eq-Decides}
use Rattle.std.proofs.lemmas.Str.{IsUtf8-from_ascii}
use Rattle.wire.proofs.requests.seat_of.Goals as goal
use Rattle.wire.proofs.requests.seat_of.Goals.{then-seat-eq0-via-then-seat-eq0, then-seat-eq0-via-else-seat-eq0+then-seat-gt-NAMES}

pub returns-in_default : goal.returns-in_default
returns-in_default c n name e =
    c.in_default.ensures.cases.0 (IsUtf8-from_ascii c.args.text.now (subst (λ (l : List ℕ). IsAscii l) (sym e) (IsAscii-decimal n (omega (arith, name.1)))))

pub returns-in_default-parse : goal.returns-in_default-parse
returns-in_default-parse c n name e =
    c.in_default-parse.not-Ok n (parse-decimal 16 n _ _ (omega (arith, name.1)) (omega (arith, name.1)) (c.in-Ok.ensures.cases.0 ∙ e) c.parse.ensures.value.0)

pub returns-then-seat-eq0 : goal.returns-then-seat-eq0
returns-then-seat-eq0 c n name e =
    let parsed = parse-decimal 16 n _ _ (omega (arith, name.1)) (omega (arith, name.1)) (c.in-Ok.ensures.cases.0 ∙ e) c.parse.ensures.value.0 in
    let same : c.in-Ok-parse.seat ≡ n = cc (parsed, c.in-Ok-parse.is) in
    elim c.then-seat-eq0.branch [
      | then-seat-eq0-via-then-seat-eq0 w ↦ omega (arith, same, name.0, w.if-seat-eq0.true)
      | then-seat-eq0-via-else-seat-eq0+then-seat-gt-NAMES w ↦ omega (arith, same, name.1, w.if-seat-gt-NAMES.true)
    ]

pub returns-else-eq : goal.returns-else-eq
returns-else-eq c n name e =
    let parsed = parse-decimal 16 n _ _ (omega (arith, name.1)) (omega (arith, name.1)) (c.in-Ok.ensures.cases.0 ∙ e) c.parse.ensures.value.0 in
    let same : c.in-Ok-parse.seat ≡ n = cc (parsed, c.in-Ok-parse.is) in
    let printed : c.as_bytes.result.now ≡ c.args.text.now = c.as_bytes.ensures.value ∙ c.format.ensures.text ∙ ap decimal same ∙ sym e in
    true≢false (sym ((slice_eq-Decides Decides-eqb _ _ _ c.eq.ensures).1 printed) ∙ c.if-eq.false)
