-- The example, computed.
use Rattle.std.proofs.Common.{refl}
use Rattle.network.specs.Reports.{least_capacity, report_of}
use Rattle.formats.specs.Fields.{written}
use Rattle.formats.specs.Pages.{sides, rate_line, governing_line, total_line}
use Rattle.rating.specs.Examples.{Examples}
use Rattle.rating.specs.Pages.{governing_row, step_lines, stepped, all_lines, litres, page_of}
use Rattle.rating.specs.Ratings.{in_space, rating}
use Rattle.texts.specs.Texts.{schedule_for, text_in}

pub examples : Examples
unfolding least_capacity report_of written sides rate_line governing_line total_line governing_row step_lines stepped all_lines litres page_of schedule_for text_in in_space rating
examples = record { page = refl; short = refl; few = refl }
