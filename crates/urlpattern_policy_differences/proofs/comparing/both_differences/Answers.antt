use Rattle.urlpattern_policy_differences.proofs.comparing.both_differences.Goals as goal

pub returns : goal.returns
returns g c =
    let olds = c.in_ok-olds.olds in
    let news = c.in_ok-news.news in
    record {
      gained = (news, olds, c.in_ok-news.ensures.made, c.in_ok-olds.ensures.made, c.in_ok-gained.ensures);
      lost = (olds, news, c.in_ok-olds.ensures.made, c.in_ok-news.ensures.made, c.in_ok-lost.ensures);
      spelling = c.is_spelled_alike.ensures;
    }
