use Rattle.term.proofs.Examples.{internal_choice, external_choice, skip_in_choice, skip_beside_loop, unguarded, hidden_loop, interleaving, synchronised, renamed, sequence, interrupted}
use Rattle.term.proofs.laws.worked_examples.Goals as goal

pub returns : goal.returns
returns c = record {
  internal_choice = internal_choice;
  external_choice = external_choice;
  skip_in_choice = skip_in_choice;
  skip_beside_loop = skip_beside_loop;
  unguarded = unguarded;
  hidden_loop = hidden_loop;
  interleaving = interleaving;
  synchronised = synchronised;
  renamed = renamed;
  sequence = sequence;
  interrupted = interrupted;
}
