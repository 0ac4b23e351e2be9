-- What is reached from a root is a closed specification.
use Rattle.std.proofs.Common.{◌≡◌, ℕ, ◌+◌, ◌<◌, List, [], ◌∷◌, length, sym, ap, subst, ◌∙◌, arith}
use Rattle.std.specs.List.{All, flat_map}
use Rattle.std.proofs.lemmas.List.{length-map, length-append, get_or_default}
use Rattle.alphabet.specs.Channels.{event_count}
use Rattle.term.specs.Proc as procs
use Rattle.term.specs.Proc.{Proc, bodies_of}
use Rattle.term.specs.Specs.{LiesIn, IsClosed}
use Rattle.term.specs.declared.names.Names.TheVariants.{Steps}
use Rattle.denotation.specs.Bodies.{Key, names, numbered}
use Rattle.event_phrases.specs.Scopes.{Scope}
use Rattle.denotation.specs.Denotes.{Root, body_under, place, met, Gathered}
use Rattle.denotation.proofs.Reached.{keys_grow}
use Rattle.read_back.proofs.Readable.{IsWritten}
use Rattle.read_back.proofs.Reaching.{reached_many}
use Rattle.read_back.proofs.Written.{reached_written}

-- a process that has a text lies in Sigma
lies : (n m : ℕ) (P : Proc) → IsWritten n m P → LiesIn n m P
lies n m procs.stop h = tt
lies n m procs.skip h = tt
lies n m (procs.prefix a P) h = (h.0, lies n m P h.1)
lies n m (procs.ext P Q) h = (lies n m P h.0, lies n m Q h.1)
lies n m (procs.int P Q) h = (lies n m P h.0, lies n m Q h.1)
lies n m (procs.seq P Q) h = (lies n m P h.0, lies n m Q h.1)
lies n m (procs.par A P Q) h = (h.0, lies n m P h.1, lies n m Q h.2)
lies n m (procs.hide A P) h = (h.0, lies n m P h.1)
lies n m (procs.ren R P) h = (h.0.lies, lies n m P h.1)
lies n m (procs.intr P Q) h = (lies n m P h.0, lies n m Q h.1)
lies n m (procs.name k) h = h

all_lie : (n m : ℕ) (ps : List Proc) → ((k : ℕ) → k < length ps → IsWritten n m (bodies_of ps k)) → All (LiesIn n m) ps
all_lie n m ps h k d l = subst (LiesIn n m) (get_or_default ps k procs.stop d l) (lies n m (bodies_of ps k) (h k l))

pub is_closed : (s : Scope) (root : Root) (first : Key) (ps : List Proc) → Gathered (body_under root s) first ps → IsClosed (record { alphabet = s.channels; bodies = ps; names = Steps })
unfolding met
is_closed s root first ps g =
    let count : length ps ≡ length g.keys = ap length g.numbers ∙ length-map g.bodies (numbered (place g.keys)) ∙ sym (reached_many (body_under root s) first g.keys g.bodies g.reached) in
    let (rest, grown) = keys_grow (flat_map names g.bodies) (first ∷ []) in
    let long : length g.keys ≡ 1 + length rest = ap length (sym g.reached.first ∙ grown) ∙ length-append (first ∷ []) rest in
    (omega (arith, count, long), all_lie (event_count s.channels) (length ps) ps (reached_written s root first g.keys g.bodies ps g.reached g.numbers))
