-- What holds of nodes goes on to hold while the space and the nodes grow.
use Rattle.std.proofs.Common.{◌≡◌, ◌↔◌, IsTrue, ℕ, ◌+◌, ◌<◌, ◌≤◌, inl, inr, Option, None, Some, IfNone, IfSome, Result, Ok, Err, OnOk, List, [], ◌∷◌, ◌++◌, length, get_or, map, reverse, refl, sym, ap, ◌∙◌, subst, arith, length-append, append_assoc}
use Rattle.std.proofs.lemmas.Bool.{cases_lt}
use Rattle.std.proofs.lemmas.List.{append-nil, get_or_append_left, map-append, reverse-append}
use Rattle.std.proofs.Math.Seq.{get_or-append_seam}
use Rattle.alphabet.specs.Channels.{event_count}
use Rattle.alphabet.specs.EventSets.{Set, member}
use Rattle.alphabet.specs.declared.events.Event.{Event}
use Rattle.alphabet.specs.declared.events.Event.TheVariants.{Of as ev}
use Rattle.term.specs.Proc.{Proc, bodies_of, root}
use Rattle.term.specs.Meaning.{Trace}
use Rattle.term.specs.Specs.{Specified, IsClosed}
use Rattle.spaces.specs.Spaces.{Spaced, Belongs, GrewFrom}
use Rattle.spaces.proofs.Growing.{grew-same, grew-on, belongs-on, belongs-back}
use Rattle.refinement.specs.declared.reached.Node.{Node}
use Rattle.refinement.specs.declared.property.Property.{Property}
use Rattle.refinement.specs.declared.outcome.Fault.{Fault}
use Rattle.refinement.specs.Properties.{IsUnsettled, Shows}
use Rattle.refinement.specs.Nodes.{AllTied, AreSoundNodes, ComesOf, GrewNodes, HasSet, Is, IsAmong, IsLed, IsNodeDone, IsTied, IsWell, no_node, node_at, node_key}
use Rattle.refinement.specs.Places.{ArePlaced}
use Rattle.refinement.proofs.Expanding.{next-in}
use Rattle.refinement.proofs.Following.{at-none, at-some}

-- ---- lists
abbrev pub Begins : List Node → List Node → Type 0
Begins ps qs = (more : List Node) × (qs ≡ ps ++ more)

pub begins-same : (ps : List Node) → Begins ps ps
begins-same ps = ([], sym (append-nil ps))

begins-on : (ps qs rs : List Node) → Begins ps qs → Begins qs rs → Begins ps rs
begins-on ps qs rs (m, e) (n, f) = (m ++ n, f ∙ ap (λ (l : List Node). l ++ n) e ∙ append_assoc ps m n)

pub begins-longer : (ps qs : List Node) → Begins ps qs → length ps ≤ length qs
begins-longer ps qs (more, e) = omega (arith, ap length e, length-append ps more)

pub begins-at : (ps qs : List Node) (i : ℕ) → Begins ps qs → i < length ps → node_at qs i ≡ node_at ps i
begins-at ps qs i (more, e) h = ap (λ (l : List Node). get_or l i no_node) e ∙ get_or_append_left ps more no_node i h

pub nodes-same : (T : Spaced) (ps : List Node) → GrewNodes T ps T ps
nodes-same T ps = record { space = grew-same T; nodes = begins-same ps }

pub nodes-on : (T : Spaced) (ps : List Node) (T1 : Spaced) (ps1 : List Node) (T2 : Spaced) (ps2 : List Node) → GrewNodes T ps T1 ps1 → GrewNodes T1 ps1 T2 ps2 → GrewNodes T ps T2 ps2
nodes-on T ps T1 ps1 T2 ps2 g h = record { space = grew-on T T1 T2 g.space h.space; nodes = begins-on ps ps1 ps2 g.nodes h.nodes }

-- ---- a space that grows
module _ (T T' : Spaced) (h : GrewFrom T T') where
  is-on : (p : Node) (vs : List ℕ) → Is T p vs → Is T' p vs
  is-on p vs b = belongs-on T T' h p.set (map ev vs) b

  is-back : (p : Node) (vs bs : List ℕ) → Is T p bs → Is T' p vs → Is T p vs
  is-back p vs bs w b = belongs-back T T' h p.set (map ev vs) w.within b

  tied-one : (ps : List Node) (i : ℕ) (p : Node) → AllTied T ps → i ≤ length ps → IsTied T ps i p → IsTied T' ps i p
  tied-one ps i p all here k =
      record {
        reached = (k.reached.0, is-on p k.reached.0 k.reached.1);
        traced = subst (λ (s : Specified). Trace (bodies_of s.bodies) root (map ev k.reached.0)) (sym h.spec) k.traced;
        comes = elim k.comes [
          | inl (e, b) ↦ inl (e, is-on p [] b)
          | inr (l, f) ↦
              let w = (all p.parent (omega arith)).reached in
              inr (l, λ vs b. is-on p (vs ++ p.event ∷ []) (f vs (is-back (node_at ps p.parent) vs w.0 w.1 b)))
        ];
      }

  pub tied-grown : (ps : List Node) → AllTied T ps → AllTied T' ps
  tied-grown ps all i l = tied-one ps i (node_at ps i) all (omega arith) (all i l)

  module _ (ps ps' : List Node) (m : Begins ps ps') where
    among-on : (vs : List ℕ) → IsAmong T ps vs → IsAmong T' ps' vs
    among-on vs (j, l, b) =
        let longer : length ps ≤ length ps' = begins-longer ps ps' m in
        (j, omega arith, subst (λ (p : Node). Is T' p vs) (sym (begins-at ps ps' j m l)) (is-on (node_at ps j) vs b))

    pub led-on : (p : Node) (a : ℕ) (bs : List ℕ) → Is T p bs → IsLed T ps p a → IsLed T' ps' p a
    led-on p a bs w k vs b t =
        among-on (vs ++ a ∷ []) (k vs (is-back p vs bs w b) (subst (λ (s : Specified). Trace (bodies_of s.bodies) root (map ev (vs ++ a ∷ []))) h.spec t))

    well-on : (r : Property) (p : Node) (bs : List ℕ) → Is T p bs → IsWell r T p → IsWell r T' p
    well-on r p bs w k vs b lack s = k vs (is-back p vs bs w b) lack (subst (λ (x : Specified). Shows r (bodies_of x.bodies) (map ev vs) lack) h.spec s)

    pub done-on : (r : Property) (p : Node) (bs : List ℕ) → Is T p bs → IsNodeDone r T ps p → IsNodeDone r T' ps' p
    done-on r p bs w k = record { led = λ a. led-on p a bs w (k.led a); well = well-on r p bs w k.well }

-- ---- one node more
module _ (T : Spaced) (ps : List Node) (p : Node) where
  abbrev more : List Node
  more = ps ++ p ∷ []

  at-left : (i : ℕ) → i < length ps → node_at more i ≡ node_at ps i
  at-left i h = get_or_append_left ps (p ∷ []) no_node i h

  at-end : node_at more (length ps) ≡ p
  at-end = get_or-append_seam ps p [] no_node

  comes-on : (i : ℕ) (q : Node) → i ≤ length ps → IsTied T ps i q → IsTied T more i q
  comes-on i q h k =
      record {
        reached = k.reached;
        traced = k.traced;
        comes = elim k.comes [
          | inl b ↦ inl b
          | inr (l, f) ↦ inr (l, λ vs b. f vs (subst (λ (r : Node). Is T r vs) (at-left q.parent (omega arith)) b))
        ];
      }

  pub tied-more : AllTied T ps → IsTied T ps (length ps) p → AllTied T more
  tied-more all k i l =
      elim (cases_lt i (length ps)) [
        | inl h ↦ subst (λ (q : Node). IsTied T more i q) (sym (at-left i h)) (comes-on i (node_at ps i) (omega arith) (all i h))
        | inr h ↦
            let e : i ≡ length ps = omega (arith, length-append ps (p ∷ [])) in
            subst (λ (n : ℕ). IsTied T more n (node_at more n)) (sym e)
            (subst (λ (q : Node). IsTied T more (length ps) q) (sym at-end) (comes-on (length ps) p (omega arith) k))
      ]

  pub among-end : (vs : List ℕ) → Is T p vs → IsAmong T more vs
  among-end vs b = (length ps, omega (arith, length-append ps (p ∷ [])), subst (λ (q : Node). Is T q vs) (sym at-end) b)

pub first-tied : (T : Spaced) (p : Node) → Is T p [] → AllTied T (p ∷ [])
first-tied T p b i l =
    let e : i ≡ 0 = omega arith in
    subst (λ (n : ℕ). IsTied T (p ∷ []) n (node_at (p ∷ []) n)) (sym e) (record { reached = ([], b); traced = (0, refl); comes = inl (refl, b) })

pub among-listed : (T : Spaced) (ps : List Node) (p : Node) → HasSet ps p.set → (vs : List ℕ) → Is T p vs → IsAmong T ps vs
among-listed T ps p (j, l, e) vs b = (j, l, subst (λ (n : ℕ). Belongs T n (map ev vs)) (sym e) b)

pub nodes-put : {X E : Type 0} (r : Result X E) (T T' : Spaced) (ps ps' : List Node) (es es' : List (ℕ × ℕ)) (most most' : ℕ) (p : Node) → T' ≡ T → most' ≡ most → OnOk r (ps' ≡ ps ++ p ∷ []) → OnOk r (ArePlaced node_key no_node ps' es') → OnOk r (length ps' ≤ most) → AreSoundNodes T ps es most → IsTied T ps (length ps) p → OnOk r (AreSoundNodes T' ps' es' most')
nodes-put (Ok y) T T' ps ps' es es' most most' p a m e placed few s k =
    subst (λ (Q : Spaced). AreSoundNodes Q ps' es' most') (sym a)
    (subst (λ (n : ℕ). AreSoundNodes T ps' es' n) (sym m)
    (record { tied = subst (λ (l : List Node). AllTied T l) (sym e) (tied-more T ps p s.tied k); placed = placed; few = few }))
nodes-put (Err y) T T' ps ps' es es' most most' p a m e placed few s k = tt

pub among-put : {X E : Type 0} (r : Result X E) (T : Spaced) (ps ps' : List Node) (p : Node) → OnOk r (ps' ≡ ps ++ p ∷ []) → OnOk r ((vs : List ℕ) → Is T p vs → IsAmong T ps' vs)
among-put (Ok y) T ps ps' p e = λ vs b. subst (λ (l : List Node). IsAmong T l vs) (sym e) (among-end T ps p vs b)
among-put (Err y) T ps ps' p e = tt

pub grew-put : {X E : Type 0} (r : Result X E) (T T' : Spaced) (ps ps' : List Node) (p : Node) → T' ≡ T → OnOk r (ps' ≡ ps ++ p ∷ []) → OnOk r (GrewNodes T ps T' ps')
grew-put (Ok y) T T' ps ps' p a e = subst (λ (Q : Spaced). GrewNodes T ps Q ps') (sym a) (record { space = grew-same T; nodes = (p ∷ [], e) })
grew-put (Err y) T T' ps ps' p a e = tt

-- ---- one event followed
abbrev pub Does : Spaced → List Event → Type 0
Does T u = Trace (bodies_of T.spec.bodies) root u

module _ (T T1 : Spaced) (ps : List Node) (at a : ℕ) (q : Node) (here : at < length ps) (is : q ≡ node_at ps at) {es : List (ℕ × ℕ)} {most : ℕ} (sound : AreSoundNodes T ps es most) (h : GrewFrom T T1) where
  set-of : (vs : List ℕ) → Is T (node_at ps at) vs → Belongs T q.set (map ev vs)
  set-of vs b = subst (λ (p : Node). Belongs T p.set (map ev vs)) (sym is) b

  some-trace : (vs : List ℕ) × Is T (node_at ps at) vs
  some-trace = (sound.tied at here).reached

  pub set-reached : (u : List Event) × Belongs T q.set u
  set-reached = (map ev some-trace.0, set-of some-trace.0 some-trace.1)

  back : (vs : List ℕ) → Is T1 (node_at ps at) vs → Is T (node_at ps at) vs
  back vs b = is-back T T1 h (node_at ps at) vs some-trace.0 some-trace.1 b

  pub sound-grown : AreSoundNodes T1 ps es most
  sound-grown = record { tied = tied-grown T T1 h ps sound.tied; placed = sound.placed; few = sound.few }

  pub unsettled-grown : (f : Fault) → IsUnsettled most T1.spec f → IsUnsettled most T.spec f
  unsettled-grown f k = subst (λ (s : Specified). IsUnsettled most s f) h.spec k

  longer : (vs : List ℕ) → map ev (vs ++ a ∷ []) ≡ map ev vs ++ ev a ∷ []
  longer vs = map-append ev vs (a ∷ [])

  pub none-led : (o : Option ℕ) → o ≡ None → ((u : List Event) → Belongs T q.set u → IfNone o (Does T (u ++ ev a ∷ []) → ⊥)) → IsLed T1 ps (node_at ps at) a
  none-led o e none vs b t =
      absurd (at-none o e (none (map ev vs) (set-of vs (back vs b))) (subst (λ (s : Specified). Trace (bodies_of s.bodies) root (map ev vs ++ ev a ∷ [])) h.spec (subst (Trace (bodies_of T1.spec.bodies) root) (longer vs) t)))

  module _ (o : Option ℕ) (n : ℕ) (e : o ≡ Some n) (some : (u : List Event) → Belongs T q.set u → IfSome o (λ set. Does T (u ++ ev a ∷ []) × Belongs T1 set (u ++ ev a ∷ []))) where
    abbrev next : Node
    next = record { set = n; parent = at; event = a }

    is-next : (vs : List ℕ) → Is T (node_at ps at) vs → Is T1 next (vs ++ a ∷ [])
    is-next vs b =
        let k = at-some (λ set. Does T (map ev vs ++ ev a ∷ []) × Belongs T1 set (map ev vs ++ ev a ∷ [])) o n e (some (map ev vs) (set-of vs b)) in
        subst (λ (u : List Event). Belongs T1 n u) (sym (longer vs)) k.1

    does-next : (vs : List ℕ) → Is T (node_at ps at) vs → Does T1 (map ev (vs ++ a ∷ []))
    does-next vs b =
        let k = at-some (λ set. Does T (map ev vs ++ ev a ∷ []) × Belongs T1 set (map ev vs ++ ev a ∷ [])) o n e (some (map ev vs) (set-of vs b)) in
        subst (Trace (bodies_of T1.spec.bodies) root) (sym (longer vs)) (subst (λ (s : Specified). Trace (bodies_of s.bodies) root (map ev vs ++ ev a ∷ [])) (sym h.spec) k.0)

    pub tied-next : IsTied T1 ps (length ps) next
    tied-next =
        record {
          reached = (some-trace.0 ++ a ∷ [], is-next some-trace.0 some-trace.1);
          traced = does-next some-trace.0 some-trace.1;
          comes = inr (here, λ vs b. is-next vs (back vs b));
        }

    pub led-next : {X E : Type 0} (r : Result X E) (T2 : Spaced) (ps2 : List Node) → T2 ≡ T1 → OnOk r ((vs : List ℕ) → Is T2 next vs → IsAmong T2 ps2 vs) → OnOk r (IsLed T2 ps2 (node_at ps at) a)
    led-next (Ok y) T2 ps2 c found = λ vs b t.
        found (vs ++ a ∷ []) (subst (λ (S : Spaced). Is S next (vs ++ a ∷ [])) (sym c) (is-next vs (back vs (subst (λ (S : Spaced). Is S (node_at ps at) vs) c b))))
    led-next (Err y) T2 ps2 c found = tt

-- ---- all events of one node
module _ (T : Spaced) (ps : List Node) {es : List (ℕ × ℕ)} {most : ℕ} (at : ℕ) (here : at < length ps) (sound : AreSoundNodes T ps es most) where
  module _ (T1 : Spaced) (ps1 : List Node) (g : GrewNodes T ps T1 ps1) where
    same-node : node_at ps1 at ≡ node_at ps at
    same-node = begins-at ps ps1 at g.nodes here

    pub still-here : at < length ps1
    still-here = let l : length ps ≤ length ps1 = begins-longer ps ps1 g.nodes in omega (arith, l, here)

    some : (vs : List ℕ) × Is T (node_at ps at) vs
    some = (sound.tied at here).reached

    pub back-on : (vs : List ℕ) → Is T1 (node_at ps1 at) vs → Is T (node_at ps at) vs
    back-on vs b = is-back T T1 g.space (node_at ps at) vs some.0 some.1 (subst (λ (q : Node). Is T1 q vs) same-node b)

    -- what may come next stays so
    pub next-on : (N : Set) (q : Node) → q ≡ node_at ps at → ((u : List Event) → Belongs T q.set u → (x : Event) → IsTrue (member N x) ↔ Does T (u ++ x ∷ [])) → (a : ℕ) (vs : List ℕ) → Is T1 (node_at ps1 at) vs → Does T1 (map ev (vs ++ a ∷ [])) → IsTrue (member N (ev a))
    next-on N q is k a vs b t =
        let u : Does T1 (map ev vs ++ ev a ∷ []) = subst (Trace (bodies_of T1.spec.bodies) root) (map-append ev vs (a ∷ [])) t in
        (k (map ev vs) (subst (λ (p : Node). Belongs T p.set (map ev vs)) (sym is) (back-on vs b)) (ev a)).1
        (subst (λ (s : Specified). Trace (bodies_of s.bodies) root (map ev vs ++ ev a ∷ [])) g.space.spec u)

    module _ (T2 : Spaced) (ps2 : List Node) (k : GrewNodes T1 ps1 T2 ps2) where
      kept : (a : ℕ) → IsLed T1 ps1 (node_at ps at) a → IsLed T2 ps2 (node_at ps at) a
      kept a l = led-on T1 T2 k.space ps1 ps2 k.nodes (node_at ps at) a some.0 (is-on T T1 g.space (node_at ps at) some.0 some.1) l

      -- one number more
      pub led-more : (n : ℕ) → ((a : ℕ) → a < n → IsLed T1 ps1 (node_at ps at) a) → IsLed T2 ps2 (node_at ps1 at) n → (a : ℕ) → a < n + 1 → IsLed T2 ps2 (node_at ps at) a
      led-more n all one a l =
          elim (cases_lt a n) [
            | inl h ↦ kept a (all a h)
            | inr h ↦ let e : n ≡ a = omega arith in subst (λ (b : ℕ). IsLed T2 ps2 (node_at ps at) b) e (subst (λ (q : Node). IsLed T2 ps2 q n) same-node one)
          ]

    -- all numbers of the alphabet
    pub led-all : (n : ℕ) → IsClosed T.spec → event_count T.spec.alphabet ≤ n → ((a : ℕ) → a < n → IsLed T1 ps1 (node_at ps at) a) → (a : ℕ) → IsLed T1 ps1 (node_at ps at) a
    led-all n closed few all a vs b t =
        let u : Trace (bodies_of T1.spec.bodies) root (map ev vs ++ ev a ∷ []) = subst (Trace (bodies_of T1.spec.bodies) root) (map-append ev vs (a ∷ [])) t in
        let l : a < event_count T.spec.alphabet = next-in T.spec closed (map ev vs) a (subst (λ (s : Specified). Trace (bodies_of s.bodies) root (map ev vs ++ ev a ∷ [])) g.space.spec u) in
        all a (omega arith) vs b t

-- ---- all nodes before a place
module _ (r : Property) (T : Spaced) (ps : List Node) (T1 : Spaced) (ps1 : List Node) (g : GrewNodes T ps T1 ps1) {es : List (ℕ × ℕ)} {most : ℕ} (sound : AreSoundNodes T ps es most) where
  done-kept : (i : ℕ) → i < length ps → IsNodeDone r T ps (node_at ps i) → IsNodeDone r T1 ps1 (node_at ps1 i)
  done-kept i l d =
      let some = (sound.tied i l).reached in
      subst (λ (q : Node). IsNodeDone r T1 ps1 q) (sym (begins-at ps ps1 i g.nodes l)) (done-on T T1 g.space ps ps1 g.nodes r (node_at ps i) some.0 some.1 d)

  pub nodes-more : (at : ℕ) → at < length ps → ((i : ℕ) → i < at → IsNodeDone r T ps (node_at ps i)) → IsWell r T (node_at ps at) → ((a : ℕ) → IsLed T1 ps1 (node_at ps at) a) → (i : ℕ) → i < at + 1 → IsNodeDone r T1 ps1 (node_at ps1 i)
  nodes-more at here all well led i l =
      elim (cases_lt i at) [
        | inl h ↦ done-kept i (omega arith) (all i h)
        | inr h ↦
            let e : at ≡ i = omega arith in
            let some = (sound.tied at here).reached in
            let one : IsNodeDone r T1 ps1 (node_at ps at) = record { led = led; well = well-on T T1 g.space ps ps1 g.nodes r (node_at ps at) some.0 some.1 well } in
            subst (λ (n : ℕ). IsNodeDone r T1 ps1 (node_at ps1 n)) e (subst (λ (q : Node). IsNodeDone r T1 ps1 q) (sym (begins-at ps ps1 at g.nodes here)) one)
      ]

-- ---- from a node back to the first
module _ (T : Spaced) (ps : List Node) (all : AllTied T ps) where
  came : (i : ℕ) → 0 < i → i < length ps → ((node_at ps i).parent < i) × ((vs : List ℕ) → Is T (node_at ps (node_at ps i).parent) vs → Is T (node_at ps i) (vs ++ (node_at ps i).event ∷ []))
  came i h l = elim (all i l).comes [ inl (e, b) ↦ absurd (omega (arith, e)) | inr r ↦ r ]

  pub node-before : (i : ℕ) (q : Node) → q ≡ node_at ps i → 0 < i → i < length ps → q.parent < i
  node-before i q is h l = subst (λ (r : Node). r.parent < i) (sym is) (came i h l).0

  pub node-first : 0 < length ps → Is T (node_at ps 0) []
  node-first h = elim (all 0 h).comes [ inl (e, b) ↦ b | inr (l, f) ↦ absurd (omega (arith, l)) ]

  -- the events behind it, the last first
  pub node-back : (at i : ℕ) (q : Node) (trace : List ℕ) → q ≡ node_at ps i → 0 < i → i < length ps → ((vs : List ℕ) → Is T (node_at ps i) vs → Is T (node_at ps at) (vs ++ reverse trace)) → (vs : List ℕ) → Is T (node_at ps q.parent) vs → Is T (node_at ps at) (vs ++ reverse (trace ++ q.event ∷ []))
  node-back at i q trace is h l rest vs b =
      let p = node_at ps i in
      let b1 : Is T p (vs ++ p.event ∷ []) = (came i h l).1 vs (subst (λ (r : Node). Is T (node_at ps r.parent) vs) is b) in
      let f : reverse (trace ++ q.event ∷ []) ≡ p.event ∷ reverse trace = reverse-append trace (q.event ∷ []) ∙ ap (λ (r : Node). r.event ∷ reverse trace) is in
      subst (λ (v : List ℕ). Is T (node_at ps at) v) (append_assoc vs (p.event ∷ []) (reverse trace) ∙ ap (λ (v : List ℕ). vs ++ v) (sym f)) (rest (vs ++ p.event ∷ []) b1)

-- the same numbers the other way round
pub reversed : (bs : List ℕ) → reverse (map ev bs) ≡ map ev (reverse bs)
reversed [] = refl
reversed (b ∷ bs) =
    reverse-append (ev b ∷ []) (map ev bs)
    ∙ ap (λ (l : List Event). l ++ ev b ∷ []) (reversed bs)
    ∙ sym (map-append ev (reverse bs) (b ∷ []))
    ∙ ap (map ev) (sym (reverse-append (b ∷ []) bs))
