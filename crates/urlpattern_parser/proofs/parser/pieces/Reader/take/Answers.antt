use Rattle.urlpattern_parser.proofs.ReaderLemmas.{takes_less, takes_token}
use Rattle.urlpattern_parser.proofs.parser.pieces.Reader.take.Goals as goal

pub returns-clause-takes : goal.returns-clause-takes
returns-clause-takes c =
    takes_token c.args.self.now (record { alloc = c.args.self.now.alloc; cursor = c.next.new.self; token = c.in_ok-next.next }) c.in_ok-next.ensures.whole c.in_ok-next.ensures.place c.in_ok-next.ensures.token c.in_ok-next.ensures.len c.requires.stands c.requires.more

pub returns-clause-less : goal.returns-clause-less
returns-clause-less c =
    takes_less c.args.self.now (record { alloc = c.args.self.now.alloc; cursor = c.next.new.self; token = c.in_ok-next.next }) c.in_ok-next.ensures.whole c.in_ok-next.ensures.place c.in_ok-next.ensures.token c.in_ok-next.ensures.len c.requires.stands c.requires.more
