use Rattle.denotation.specs.Denotes.{root_of}
use Rattle.script.proofs.printed.print.Goals as goal

pub returns-clause-reads_back : goal.returns-clause-reads_back
returns-clause-reads_back g c text root r small =
    let back = c.printed_scripts_read_back.ensures text (root_of r.phrase) r.tree c.args.spec.now r.reads r.denotes small in
    record { tree = back.0; reads = back.1; phrase = back.2; written = back.3; denotes = back.4 }
