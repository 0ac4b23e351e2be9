use Rattle.std.proofs.Common.{IfOk, sym, ap, subst}
use Rattle.term.specs.Proc.{Proc, bodies_of}
use Rattle.nodes.specs.declared.node.Node.TheVariants.{Ext, Seq, Par, Hide, Ren, Intr, Name}
use Rattle.nodes.specs.Shapes.{at}
use Rattle.nodes.specs.Tables.{IsNumber}
use Rattle.unfolding.specs.Unfolded.{kept_as, stands_for}
use Rattle.keeping.proofs.Growing.{number-grown, stays-on}
use Rattle.keeping.proofs.Replacing.{IsOf, is-of, seq-within, seq-replaced, hide-within, hide-replaced, ren-within, ren-replaced, ext-replaced, par-within, par-replaced, intr-replaced, kept-after}
use Rattle.keeping.proofs.states.States.+keep.Goals as goal

pub find-returns-in-Name-clause-number : goal.find-returns-in-Name-clause-number
find-returns-in-Name-clause-number g t c =
    let s = c.args.self.now in
    let of : IsOf s.all.table c.args.number (Name c.in-Name.name) = is-of c.in-Name.is c.requires.within c.requires.shape in
    subst (λ (P : Proc). IfOk c.standing.result (λ n. IsNumber c.standing.new.self.all.table n P)) (sym (ap (λ P. kept_as (bodies_of s.all.bodies) s.deep P) of.is)) c.standing.ensures.number

pub find-put-requires : goal.find-put-requires
find-put-requires g t c =
    let s = c.args.self.now in
    let of : IsOf s.all.table c.args.number (Seq c.in-Seq.p c.in-Seq.q) = is-of c.in-Seq.is c.requires.within c.requires.shape in
    seq-within s.all.table c.keep.new.self.all.table c.keep.ensures.kept.all.table (stands_for (bodies_of s.all.bodies) s.deep) c.requires.number of c.in_ok-p-in-Seq.ensures.number

pub find-returns-in_ok-p-in-Seq-clause-number : goal.find-returns-in_ok-p-in-Seq-clause-number
find-returns-in_ok-p-in-Seq-clause-number g t c =
    let s = c.args.self.now in
    let of : IsOf s.all.table c.args.number (Seq c.in-Seq.p c.in-Seq.q) = is-of c.in-Seq.is c.requires.within c.requires.shape in
    let same = seq-replaced s.all.table c.keep.new.self.all.table c.keep.ensures.kept.all.table (stands_for (bodies_of s.all.bodies) s.deep) c.requires.number of c.in_ok-p-in-Seq.ensures.number in
    subst (λ (P : Proc). IfOk c.put.result (λ n. IsNumber c.put.new.self.all.table n P)) same c.put.ensures.number

pub find-returns-in_ok-p-in-Seq-clause-kept : goal.find-returns-in_ok-p-in-Seq-clause-kept
find-returns-in_ok-p-in-Seq-clause-kept g t c = stays-on c.args.self.now c.keep.new.self c.put.new.self c.keep.ensures.kept c.put.ensures.kept

pub find-put-requires-in-Hide : goal.find-put-requires-in-Hide
find-put-requires-in-Hide g t c =
    let s = c.args.self.now in
    let of : IsOf s.all.table c.args.number (Hide c.in-Hide.set c.in-Hide.p) = is-of c.in-Hide.is c.requires.within c.requires.shape in
    hide-within s.all.table c.keep-in-Hide.new.self.all.table c.keep-in-Hide.ensures.kept.all.table (stands_for (bodies_of s.all.bodies) s.deep) of c.in_ok-p-in-Hide.ensures.number

pub find-returns-in_ok-p-in-Hide-clause-number : goal.find-returns-in_ok-p-in-Hide-clause-number
find-returns-in_ok-p-in-Hide-clause-number g t c =
    let s = c.args.self.now in
    let of : IsOf s.all.table c.args.number (Hide c.in-Hide.set c.in-Hide.p) = is-of c.in-Hide.is c.requires.within c.requires.shape in
    let same = hide-replaced s.all.table c.keep-in-Hide.new.self.all.table c.keep-in-Hide.ensures.kept.all.table (stands_for (bodies_of s.all.bodies) s.deep) of c.in_ok-p-in-Hide.ensures.number in
    subst (λ (P : Proc). IfOk c.put-in-Hide.result (λ n. IsNumber c.put-in-Hide.new.self.all.table n P)) same c.put-in-Hide.ensures.number

pub find-returns-in_ok-p-in-Hide-clause-kept : goal.find-returns-in_ok-p-in-Hide-clause-kept
find-returns-in_ok-p-in-Hide-clause-kept g t c = stays-on c.args.self.now c.keep-in-Hide.new.self c.put-in-Hide.new.self c.keep-in-Hide.ensures.kept c.put-in-Hide.ensures.kept

pub find-put-requires-in-Ren : goal.find-put-requires-in-Ren
find-put-requires-in-Ren g t c =
    let s = c.args.self.now in
    let of : IsOf s.all.table c.args.number (Ren c.in-Ren.relation c.in-Ren.p) = is-of c.in-Ren.is c.requires.within c.requires.shape in
    ren-within s.all.table c.keep-in-Ren.new.self.all.table c.keep-in-Ren.ensures.kept.all.table (stands_for (bodies_of s.all.bodies) s.deep) of c.in_ok-p-in-Ren.ensures.number

pub find-returns-in_ok-p-in-Ren-clause-number : goal.find-returns-in_ok-p-in-Ren-clause-number
find-returns-in_ok-p-in-Ren-clause-number g t c =
    let s = c.args.self.now in
    let of : IsOf s.all.table c.args.number (Ren c.in-Ren.relation c.in-Ren.p) = is-of c.in-Ren.is c.requires.within c.requires.shape in
    let same = ren-replaced s.all.table c.keep-in-Ren.new.self.all.table c.keep-in-Ren.ensures.kept.all.table (stands_for (bodies_of s.all.bodies) s.deep) of c.in_ok-p-in-Ren.ensures.number in
    subst (λ (P : Proc). IfOk c.put-in-Ren.result (λ n. IsNumber c.put-in-Ren.new.self.all.table n P)) same c.put-in-Ren.ensures.number

pub find-returns-in_ok-p-in-Ren-clause-kept : goal.find-returns-in_ok-p-in-Ren-clause-kept
find-returns-in_ok-p-in-Ren-clause-kept g t c = stays-on c.args.self.now c.keep-in-Ren.new.self c.put-in-Ren.new.self c.keep-in-Ren.ensures.kept c.put-in-Ren.ensures.kept

pub find-put-requires-in-Ext : goal.find-put-requires-in-Ext
find-put-requires-in-Ext g t c = (c.in_ok-p-in-Ext.ensures.left.within, c.in_ok-p-in-Ext.ensures.right.within)

pub find-returns-in_ok-p-in-Ext-clause-number : goal.find-returns-in_ok-p-in-Ext-clause-number
find-returns-in_ok-p-in-Ext-clause-number g t c =
    let s = c.args.self.now in
    let of : IsOf s.all.table c.args.number (Ext c.in-Ext.p c.in-Ext.q) = is-of c.in-Ext.is c.requires.within c.requires.shape in
    let same = ext-replaced s.all.table c.keep_both.new.self.all.table c.keep_both.ensures.kept.all.table (stands_for (bodies_of s.all.bodies) s.deep) of c.in_ok-p-in-Ext.ensures.left c.in_ok-p-in-Ext.ensures.right in
    subst (λ (P : Proc). IfOk c.put-in-Ext.result (λ n. IsNumber c.put-in-Ext.new.self.all.table n P)) same c.put-in-Ext.ensures.number

pub find-returns-in_ok-p-in-Ext-clause-kept : goal.find-returns-in_ok-p-in-Ext-clause-kept
find-returns-in_ok-p-in-Ext-clause-kept g t c = stays-on c.args.self.now c.keep_both.new.self c.put-in-Ext.new.self c.keep_both.ensures.kept c.put-in-Ext.ensures.kept

pub find-put-requires-in-Par : goal.find-put-requires-in-Par
find-put-requires-in-Par g t c =
    let s = c.args.self.now in
    let of : IsOf s.all.table c.args.number (Par c.in-Par.set c.in-Par.p c.in-Par.q) = is-of c.in-Par.is c.requires.within c.requires.shape in
    par-within s.all.table c.keep_both-in-Par.new.self.all.table c.keep_both-in-Par.ensures.kept.all.table (stands_for (bodies_of s.all.bodies) s.deep) of c.in_ok-p-in-Par.ensures.left c.in_ok-p-in-Par.ensures.right

pub find-returns-in_ok-p-in-Par-clause-number : goal.find-returns-in_ok-p-in-Par-clause-number
find-returns-in_ok-p-in-Par-clause-number g t c =
    let s = c.args.self.now in
    let of : IsOf s.all.table c.args.number (Par c.in-Par.set c.in-Par.p c.in-Par.q) = is-of c.in-Par.is c.requires.within c.requires.shape in
    let same = par-replaced s.all.table c.keep_both-in-Par.new.self.all.table c.keep_both-in-Par.ensures.kept.all.table (stands_for (bodies_of s.all.bodies) s.deep) of c.in_ok-p-in-Par.ensures.left c.in_ok-p-in-Par.ensures.right in
    subst (λ (P : Proc). IfOk c.put-in-Par.result (λ n. IsNumber c.put-in-Par.new.self.all.table n P)) same c.put-in-Par.ensures.number

pub find-returns-in_ok-p-in-Par-clause-kept : goal.find-returns-in_ok-p-in-Par-clause-kept
find-returns-in_ok-p-in-Par-clause-kept g t c = stays-on c.args.self.now c.keep_both-in-Par.new.self c.put-in-Par.new.self c.keep_both-in-Par.ensures.kept c.put-in-Par.ensures.kept

pub find-put-requires-in-Intr : goal.find-put-requires-in-Intr
find-put-requires-in-Intr g t c = (c.in_ok-p-in-Intr.ensures.left.within, c.in_ok-p-in-Intr.ensures.right.within)

pub find-returns-in_ok-p-in-Intr-clause-number : goal.find-returns-in_ok-p-in-Intr-clause-number
find-returns-in_ok-p-in-Intr-clause-number g t c =
    let s = c.args.self.now in
    let of : IsOf s.all.table c.args.number (Intr c.in-Intr.p c.in-Intr.q) = is-of c.in-Intr.is c.requires.within c.requires.shape in
    let same = intr-replaced s.all.table c.keep_both-in-Intr.new.self.all.table c.keep_both-in-Intr.ensures.kept.all.table (stands_for (bodies_of s.all.bodies) s.deep) of c.in_ok-p-in-Intr.ensures.left c.in_ok-p-in-Intr.ensures.right in
    subst (λ (P : Proc). IfOk c.put-in-Intr.result (λ n. IsNumber c.put-in-Intr.new.self.all.table n P)) same c.put-in-Intr.ensures.number

pub find-returns-in_ok-p-in-Intr-clause-kept : goal.find-returns-in_ok-p-in-Intr-clause-kept
find-returns-in_ok-p-in-Intr-clause-kept g t c = stays-on c.args.self.now c.keep_both-in-Intr.new.self c.put-in-Intr.new.self c.keep_both-in-Intr.ensures.kept c.put-in-Intr.ensures.kept

pub keep_both-returns-clause-left : goal.keep_both-returns-clause-left
keep_both-returns-clause-left g t c =
    let s = c.args.self.now in
    number-grown c.keep.new.self.all.table c.keep-2.new.self.all.table c.in_ok-left.left (kept_as (bodies_of s.all.bodies) s.deep (at s.all.table.processes c.args.p)) c.keep-2.ensures.kept.all.table c.in_ok-left.ensures.number

pub keep_both-returns-clause-right : goal.keep_both-returns-clause-right
keep_both-returns-clause-right g t c =
    kept-after c.args.self.now c.keep.new.self c.keep-2.new.self.all.table c.args.q c.in_ok-right.right c.keep.ensures.kept c.requires.right c.in_ok-right.ensures.number

pub keep_both-returns-clause-kept : goal.keep_both-returns-clause-kept
keep_both-returns-clause-kept g t c = stays-on c.args.self.now c.keep.new.self c.keep-2.new.self c.keep.ensures.kept c.keep-2.ensures.kept
