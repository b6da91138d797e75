use Rattle.std.proofs.Common.{rules, tests, ap, ◌∙◌, unwrap_or}
use Rattle.std.proofs.lemmas.Iterator.{YieldsList-from_slice, YieldsList-from_map}
use Rattle.std.proofs.lemmas.Iterator.Consumers.{reduce_from_yields_List}
use Rattle.std.proofs.lemmas.List.Folds.{max_of_map}
use Rattle.translator.proofs.Reaching.{last, reach_all}
use Rattle.translator.proofs.layout.Layout.reach.Goals as goal

pub returns : goal.returns
returns g c =
    let M = g.M.Mapping.meaning in
    let ps = c.args.self.now.places.now in
    let ls = c.args.literals.now in
    c.unwrap_or.ensures
    ∙ ap (λ o. unwrap_or o 0) (reduce_from_yields_List _ c.map.result _ c.max.ensures.ran (YieldsList-from_map _ (last M ps) (YieldsList-from_slice ls cc) c.map.ensures.closure (λ x r q k. search (rules, tests))))
    ∙ max_of_map (last M ps) ls
    ∙ reach_all M ps ls
