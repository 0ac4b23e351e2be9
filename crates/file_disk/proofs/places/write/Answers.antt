use Rattle.std.proofs.Common.{length}
use Rattle.disk.proofs.Parts.{torn_none}
use Rattle.file_disk.proofs.places.write.Goals as goal

pub returns-then-at-gt-LONGEST-clause-part : goal.returns-then-at-gt-LONGEST-clause-part
returns-then-at-gt-LONGEST-clause-part g c claims = torn_none c.args.at (length c.args.bytes.now) (g.F.PlacedFile.state c.args.file.now).bytes

pub returns-then-at-gt-LONGEST-clause-files : goal.returns-then-at-gt-LONGEST-clause-files
returns-then-at-gt-LONGEST-clause-files g c claims file left = (file, left, torn_none c.args.at (length c.args.bytes.now) file)
