-- What is in memory as plain values.
use Rattle.denotation.specs.declared.call.Call.{Call}
use Rattle.denotation.specs.declared.draft.Draft.{Draft}
use Rattle.denotation.specs.declared.draft.Draft.TheVariants.{Stop, Skip, Prefix', Both', Hide', Ren', Name}
use Rattle.denotation.specs.Bodies.{Key, Body, stop, skip, prefix, hide, ren, name}
use Rattle.denotation.specs.Phrases.{joint_of}
use Rattle.denotation.specs.Denotes.{Root, named, phrased}
use Rattle.denotation.specs.declared.root.Root.{Root as HeldRoot}
use Rattle.denotation.specs.declared.root.Root.TheVariants as roots
use Rattle.event_phrases.specs.View.{listed}
use Rattle.syntax.specs.View.{shape}

-- a definition and the values of its parameters
abbrev pub key : {A : Type 0} → Call A → Key
key c = (c.name.items, listed c.arguments.items)

-- the body that a draft is
abbrev pub body : {A : Type 0} → Draft A → Body
body Stop = stop
body Skip = skip
body (Prefix' a p t) = prefix a (body t)
body (Both' k p t q u) = joint_of k (body t) (body u)
body (Hide' A p t) = hide A (body t)
body (Ren' r p t) = ren r.items (body t)
body (Name c) = name (key c)

abbrev pub root : {A : Type 0} → HeldRoot A → Root
root (roots.Named n) = named n.now
root (roots.Phrase t) = phrased (shape t.now)
