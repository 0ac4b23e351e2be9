use Rattle.std.proofs.Common.{List, ℕ, ap, ap₂, ◌∙◌}
use Rattle.alphabet.specs.Channels.{Values}
use Rattle.event_phrases.specs.View.{listed}
use Rattle.denotation.specs.Denotes.{root_key}
use Rattle.denotation.specs.View.{root as root_view}
use Rattle.denotation.proofs.FirstPlaces.{same}
use Rattle.denotation.proofs.Seen.{seen_root}
use Rattle.denotation.proofs.gathering.begun.Goals as goal

pub returns : goal.returns
returns g c =
    let root = ap₂ (λ (n : List ℕ) (vs : Values). (n, vs)) c.in_ok-from_slice.ensures.items (ap listed c.new.ensures.items) ∙ c.name.ensures in
    seen_root same c.insert.new.self.keys c.new-met.result.keys _ (root_key (root_view c.args.root.now)) c.in_ok-_new.ensures.keys c.new-met.ensures.empty root
