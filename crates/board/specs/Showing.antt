-- What the board shows.
use Rattle.answers.specs.declared.receipt.Summary.{Summary}

-- after an operation: its counts
abbrev pub shows : Summary → Summary → Summary
shows old counts = counts
