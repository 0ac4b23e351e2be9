use Rattle.std.proofs.Common.{rules, arith, ◌≡◌, ◌+◌, ◌*◌, ◌<◌, map, ap, ◌∙◌}
use Rattle.denotation.specs.Bodies.{names, size}
use Rattle.denotation.specs.Denotes.{with_keys}
use Rattle.denotation.specs.View.{body, key}
use Rattle.denotation.proofs.Halves.{joint_size}
use Rattle.denotation.proofs.Numbered.{joint_names}
use Rattle.denotation.proofs.numbering.+numbering.Goals as goal

pub numbered-both-requires : goal.numbered-both-requires
numbered-both-requires g t c κs within =
    let p = body c.in-Both.p.value in
    let q = body c.in-Both.q.value in
    let e : size (body c.args.draft) ≡ size p + (size q + 1) = ap (λ d. size (body d)) c.in-Both.is ∙ joint_size c.in-Both.joint p q in
    let m : 3 * (size p + size q) + 2 < 3 * size (body c.args.draft) = omega (arith, e) in
    search (rules, m)

pub numbered-returns-in_ok-p-in-Both-clause-keys : goal.numbered-returns-in_ok-p-in-Both-clause-keys
numbered-returns-in_ok-p-in-Both-clause-keys g t c =
    let ks = map key c.args.met.now.keys in
    ap (λ d. with_keys ks (names (body d))) c.in-Both.is ∙ ap (with_keys ks) (joint_names c.in-Both.joint (body c.in-Both.p.value) (body c.in-Both.q.value)) ∙ c.in_ok-p-in-Both.ensures.keys
