use Rattle.urlpattern_meaning.proofs.FirstWay.{first_way_counts, first_way_follows, first_way_means, no_way_means_none, ways_are_meanings}
use Rattle.urlpattern_meaning.proofs.meaning_laws.first_ways_are_meant.Goals as goal

pub returns : goal.returns
returns c = record { ways = ways_are_meanings; some = first_way_means; none = λ tree h text captures e. no_way_means_none tree h text e captures; count = first_way_counts; follows = first_way_follows }
