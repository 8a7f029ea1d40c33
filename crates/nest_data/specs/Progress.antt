-- How far the code has come. No caller of `read_data` needs this.
use Rattle.nest_data.specs.Data.{Read}
use Rattle.nest_data.specs.declared.progress.Progress.{Progress}

abbrev pub read_of : Progress → Read
read_of progress = record { given = progress.given.items; memory = progress.words }
