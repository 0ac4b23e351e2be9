use Rattle.std.proofs.Common.{sym, ap, ◌∙◌}
use Rattle.term.specs.Proc as procs
use Rattle.event_phrases.proofs.EventSetLaws.{empty_is}
use Rattle.denotation.specs.declared.draft.Joint.TheVariants as joints
use Rattle.denotation.specs.Bodies.{numbered}
use Rattle.denotation.specs.Phrases.{joint_of, join_of}
use Rattle.denotation.proofs.numbering.joined_so.Goals as goal

pub returns-in-Interleaving : goal.returns-in-Interleaving
unfolding numbered joint_of join_of
returns-in-Interleaving g c = λ f b d h k.
    (λ i. procs.par (empty_is c.empty.result c.empty.ensures i) (h i) (k i)) ∙ ap (λ j. numbered f (joint_of j b d)) (sym (c.in-Join.is ∙ ap (λ j. joints.Join j) c.in-Interleaving.is))
