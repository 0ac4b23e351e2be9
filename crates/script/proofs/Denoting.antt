-- Texts and what they are read as.
use Rattle.std.proofs.Common.{◌≡◌, ℕ, List, [], ◌∷◌, map, false, cond, Option, Some, None, Result, Ok, Err, MatchResult, sym, ap, ap₂, subst, ◌∙◌}
use Rattle.std.specs.List.{flat_map}
use Rattle.alphabet.specs.Channels.{Channel}
use Rattle.term.specs.Proc.{Proc}
use Rattle.term.specs.Specs.{Specified, IsClosed}
use Rattle.term.specs.declared.names.Names.TheVariants.{Steps}
use Rattle.tokens.specs.Unreads.{reported}
use Rattle.tokens.specs.declared.error.ScriptErrorKind.TheVariants as errors
use Rattle.tokens.specs.declared.read_error.ReadError.{ReadError}
use Rattle.tokens.specs.declared.read_error.ReadError.TheVariants.{Memory}
use Rattle.syntax.specs.Grammar.{Syntax}
use Rattle.syntax.specs.Script.{HasPhrase, HasTree}
use Rattle.values.specs.Values.{Name}
use Rattle.values.specs.Worths.{Known}
use Rattle.values.specs.Names.{Entry, meaning, is_process}
use Rattle.values.specs.Channels.{Declares}
use Rattle.denotation.specs.Bodies.{Body, names}
use Rattle.event_phrases.specs.Events.{KnownEvents, EventsStand}
use Rattle.event_phrases.specs.Scopes.{Scope}
use Rattle.denotation.specs.Denotes.{Root, named, root_of, root_key, body_under, Denotes, body_by, body_of, met, Gathered}
use Rattle.denotation.proofs.Reached.{keys_grow}
use Rattle.denotation.proofs.Unique.{one_declared, one_sets}
use Rattle.denotation.proofs.Whole.{denotes_from}
use Rattle.script.specs.Reading.{AreBodies, IsRead}
use Rattle.script.proofs.Closed.{is_closed}

-- one specification, where a text has one tree, and is one phrase, and a tree denotes one specification for a root
pub read_once : (trees : (text : List ℕ) (t u : Syntax) → HasTree text t → HasTree text u → t ≡ u) (phrases : (text : List ℕ) (t u : Syntax) → HasPhrase text t → HasPhrase text u → t ≡ u) (specs : (script : Syntax) (root : Root) (first second : Specified) → Denotes script root first → Denotes script root second → first.names ≡ second.names → first ≡ second)
    → (text root : List ℕ) (first second : Specified) → IsRead text root first → IsRead text root second → first.names ≡ second.names → first ≡ second
read_once trees phrases specs text root first second a b n =
    let both : (a.tree, a.phrase) ≡ (b.tree, b.phrase) = ap₂ (λ (t u : Syntax). (t, u)) (trees text a.tree b.tree a.reads b.reads) (phrases root a.phrase b.phrase a.written b.written) in
    specs b.tree (root_of b.phrase) first second (subst (λ (x : Syntax × Syntax). Denotes x.0 (root_of x.1) first) both a.denotes) b.denotes n

-- how names are kept has no part in what is read
pub read_with : (text root : List ℕ) (spec other : Specified) → other.alphabet ≡ spec.alphabet → other.bodies ≡ spec.bodies → IsRead text root spec → IsRead text root other
read_with text root spec other a b r =
    let d = r.denotes in
    let kept : Denotes r.tree (root_of r.phrase) (record { alphabet = spec.alphabet; bodies = spec.bodies; names = other.names }) = record {
      entries = d.entries;
      known = d.known;
      sets = d.sets;
      declares = d.declares;
      events = d.events;
      keys = d.keys;
      bodies = d.bodies;
      reached = d.reached;
      numbers = d.numbers;
      deep = d.deep;
      large = d.large;
    } in
    record { tree = r.tree; reads = r.reads; phrase = r.phrase; written = r.written; denotes = subst (Denotes r.tree (root_of r.phrase)) (λ i. record { alphabet = sym a i; bodies = sym b i; names = other.names }) kept }

-- where only memory fails, it is reported
pub kept_memory : {X : Type 0} (r : Result X ReadError) (x : X) → MatchResult r (λ s. s ≡ x) (λ e. e ≡ Memory) → MatchResult r (λ s. s ≡ x) (λ e. (reported e).kind ≡ errors.Memory)
kept_memory (Ok s) x h = h
kept_memory (Err e) x h = ap (λ (e : ReadError). (reported e).kind) h

-- ---- bodies

module _ (cs : List Channel) (known : Known) (es : List Entry) where
  abbrev pub with_sets : KnownEvents → Scope
  with_sets sets = record { entries = es; channels = cs; known = known; sets = sets }

module _ (cs : List Channel) (known : Known) (es : List Entry) (root : Root) where
  pub bodies_with : (sets : KnownEvents) (ps : List Proc) → EventsStand cs known es sets → AreBodies cs known es root ps → Gathered (body_under root (with_sets cs known es sets)) (root_key root) ps
  bodies_with sets ps e a = subst (λ f. Gathered (body_under root (with_sets cs known es f)) (root_key root) ps) (one_sets cs known es a.sets sets a.events e) a.gathered

  pub bodies_closed : (ps : List Proc) → AreBodies cs known es root ps → IsClosed (record { alphabet = cs; bodies = ps; names = Steps })
  bodies_closed ps a = is_closed (with_sets cs known es a.sets) root (root_key root) ps a.gathered

module _ (cs : List Channel) (known : Known) (es : List Entry) (n : Name) where
  -- a root that is a name is that of a process
  no_body : (sets : KnownEvents) → is_process es n ≡ false → body_of (with_sets cs known es sets) (n, []) ≡ None
  unfolding body_of
  no_body sets h = ap (λ b. cond b (body_by (with_sets cs known es sets) (meaning es n)) None) h

  pub no_root : (ps : List Proc) → is_process es n ≡ false → AreBodies cs known es (named n) ps → ⊥
  unfolding met root_key body_under
  no_root ps h a =
      let s = with_sets cs known es a.sets in
      let g = a.gathered in
      let (rest, grown) = keys_grow (flat_map names g.bodies) ((n, []) ∷ []) in
      let all : map (body_of s) ((n, []) ∷ rest) ≡ map Some g.bodies = ap (map (body_of s)) (sym (sym g.reached.first ∙ grown)) ∙ g.reached.each in
      first (body_of s (n, [])) (map (body_of s) rest) g.bodies (no_body a.sets h) all
    where
      first : (o : Option Body) (os : List (Option Body)) (bs : List Body) → o ≡ None → (o ∷ os) ≡ map Some bs → ⊥
      first o os [] n e = cc
      first o os (b ∷ bs) n e = let f : o ≡ Some b = cc in let k : None ≡ Some b = sym n ∙ f in cc

-- ---- trees

module _ (t : Syntax) (root : Root) (es : List Entry) (known : Known) (cs : List Channel) (d : Declares t es known cs) where
  pub bodies_denote : (spec : Specified) (ps : List Proc) → AreBodies cs known es root ps → spec.alphabet ≡ cs → spec.bodies ≡ ps → Denotes t root spec
  bodies_denote spec ps a c p = subst (Denotes t root) (λ i. record { alphabet = sym c i; bodies = sym p i; names = spec.names }) (denotes_from t root es known cs a.sets d a.events ps spec.names a.gathered)

  pub denoted_bodies : (spec : Specified) → Denotes t root spec → (spec.alphabet ≡ cs) × AreBodies cs known es root spec.bodies
  denoted_bodies spec a =
      let (x, k, c) = one_declared t a.entries es a.known known spec.alphabet cs a.declares d in
      let all : (spec.alphabet, a.known, a.entries) ≡ (cs, known, es) = λ i. (c i, k i, x i) in
      (c, subst (λ (y : List Channel × Known × List Entry). AreBodies y.0 y.1 y.2 root spec.bodies) all (record { sets = a.sets; events = a.events; gathered = record { keys = a.keys; bodies = a.bodies; reached = a.reached; numbers = a.numbers; deep = a.deep; large = a.large } }))

module _ (t : Syntax) (es : List Entry) (known : Known) (cs : List Channel) (d : Declares t es known cs) where
  pub declares_so : (fs : List Entry) (k : Known) (ds : List Channel) → fs ≡ es → k ≡ known → ds ≡ cs → Declares t fs k ds
  declares_so fs k ds e h c = subst (λ (y : List Entry × Known × List Channel). Declares t y.0 y.1 y.2) (let all : (es, known, cs) ≡ (fs, k, ds) = λ i. (sym e i, sym h i, sym c i) in all) d
