use Rattle.song_chart.proofs.ColumnLaws.{columns_are_the_calls, columns_are_filled, columns_are_few}
use Rattle.song_chart.proofs.Dearest.{dearest_is_marked}
use Rattle.song_chart.proofs.Greatest.{mean_low}
use Rattle.song_chart.proofs.Steps.{heights_fit}
use Rattle.song_chart.proofs.claims.columns_are_the_calls.Goals as goal

pub returns-clause-calls : goal.returns-clause-calls
returns-clause-calls c = columns_are_the_calls

pub returns-clause-filled : goal.returns-clause-filled
returns-clause-filled c = columns_are_filled

pub returns-clause-few : goal.returns-clause-few
returns-clause-few c = columns_are_few

pub returns-clause-means : goal.returns-clause-means
returns-clause-means c = mean_low

pub returns-clause-heights : goal.returns-clause-heights
returns-clause-heights c = heights_fit

pub returns-clause-dearest : goal.returns-clause-dearest
returns-clause-dearest c = dearest_is_marked
