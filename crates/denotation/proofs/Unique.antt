-- A script denotes one specification at most.
use Rattle.std.proofs.Common.{◌≡◌, ℕ, List, map, Option, Some, None, refl, sym, ap₂, subst, ◌∙◌, ◌↔◌}
use Rattle.alphabet.specs.Channels.{Channel}
use Rattle.term.specs.Specs.{Specified}
use Rattle.syntax.specs.Grammar.{Syntax}
use Rattle.values.specs.Worths.{Known}
use Rattle.values.specs.Names.{Entry, known_in, Stands}
use Rattle.values.specs.Channels.{Declares, channels_of}
use Rattle.event_phrases.specs.Events.{KnownEvents, events_in, EventsStand}
use Rattle.denotation.specs.Bodies.{numbered}
use Rattle.event_phrases.specs.Scopes.{Scope}
use Rattle.denotation.specs.Denotes.{Root, root_key, body_under, Reached, Denotes, place}
use Rattle.event_phrases.proofs.Options.{some_is}
use Rattle.denotation.proofs.Reached.{one_reached}

-- of two functions that give a value just where a relation has it
module _ {X Y : Type 0} (R : X → Y → Type 0) (f g : X → Option Y) (fs : (x : X) (y : Y) → (f x ≡ Some y) ↔ R x y) (gs : (x : X) (y : Y) → (g x ≡ Some y) ↔ R x y) where
  at : (x : X) (o p : Option Y) → f x ≡ o → g x ≡ p → o ≡ p
  at x None None a b = refl
  at x (Some y) p a b = sym ((gs x y).1 ((fs x y).0 a)) ∙ b
  at x None (Some z) a b = sym a ∙ (fs x z).1 ((gs x z).0 b)

  same_functions : f ≡ g
  same_functions = λ i x. at x (f x) (g x) refl refl i

one_known : (es : List Entry) (f g : Known) → Stands es f → Stands es g → f ≡ g
one_known es f g = same_functions (λ n w. (k : ℕ) × (known_in es k n ≡ Some w)) f g

pub one_sets : (cs : List Channel) (known : Known) (es : List Entry) (f g : KnownEvents) → EventsStand cs known es f → EventsStand cs known es g → f ≡ g
one_sets cs known es f g = same_functions (λ n A. (k : ℕ) × (events_in cs known es k n ≡ Some A)) f g

-- what a script declares is one thing
pub one_declared : (t : Syntax) (es fs : List Entry) (f g : Known) (cs ds : List Channel) → Declares t es f cs → Declares t fs g ds → (es ≡ fs) × (f ≡ g) × (cs ≡ ds)
one_declared t es fs f g cs ds r q =
    let e : es ≡ fs = some_is (sym r.named ∙ q.named) in
    let k : f ≡ g = one_known es f g r.stands (subst (λ (xs : List Entry). Stands xs g) (sym e) q.stands) in
    (e, k, some_is (sym r.fielded ∙ ap₂ channels_of k e ∙ q.fielded))

pub one_spec : (t : Syntax) (root : Root) (a b : Specified) → Denotes t root a → Denotes t root b → a.names ≡ b.names → a ≡ b
one_spec t root a b r q n =
    let (e, k, c) = one_declared t r.entries q.entries r.known q.known a.alphabet b.alphabet r.declares q.declares in
    let all : (b.alphabet, q.known, q.entries) ≡ (a.alphabet, r.known, r.entries) = λ i. (sym c i, sym k i, sym e i) in
    let sets : r.sets ≡ q.sets = one_sets a.alphabet r.known r.entries r.sets q.sets r.events (subst (λ (x : List Channel × Known × List Entry). EventsStand x.0 x.1 x.2 q.sets) all q.events) in
    let here : Scope = record { entries = r.entries; channels = a.alphabet; known = r.known; sets = r.sets } in
    let there : Scope = record { entries = q.entries; channels = b.alphabet; known = q.known; sets = q.sets } in
    let scopes : there ≡ here = λ i. record { entries = sym e i; channels = sym c i; known = sym k i; sets = sym sets i } in
    let (ks, bs) = one_reached (body_under root here) (root_key root) r.keys q.keys r.bodies q.bodies r.reached (subst (λ (s : Scope). Reached (body_under root s) (root_key root) q.keys q.bodies) scopes q.reached) in
    let bodies : a.bodies ≡ b.bodies = r.numbers ∙ ap₂ (λ ks bs. map (numbered (place ks)) bs) ks bs ∙ sym q.numbers in
    λ i. record { alphabet = c i; bodies = bodies i; names = n i }
