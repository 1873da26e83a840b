use Rattle.std.proofs.Common.{ap, ◌∙◌, rules, ◌≡◌}
use Rattle.std.specs.Prelude.{filter_map}
use Rattle.std.specs.List.{range_with_len}
use Rattle.std.specs.Option.{option_copied}
use Rattle.plan_nodes.specs.Orders.{item_column}
use Rattle.plan_scans.proofs.Requests.{columns-all, columns-some}
use Rattle.plan_scans.proofs.request.columns_of.Goals as goal

pub returns-in_ok-item_columns-in-Some : goal.returns-in_ok-item_columns-in-Some
returns-in_ok-item_columns-in-Some c =
    columns-some (option_copied c.args.items) c.args.width c.in-Some.items.now c.from_vec.result (ap option_copied c.in-Some.is) c.requires
    (c.from_vec.ensures ∙ c.in_ok-item_columns-in-Some.ensures ∙ ap (filter_map item_column) c.as_slice.ensures)

pub returns-in_ok-all_columns-in-Ok : goal.returns-in_ok-all_columns-in-Ok
returns-in_ok-all_columns-in-Ok c =
    let width : c.in-Ok.width ≡ c.args.width = search rules in
    columns-all (option_copied c.args.items) c.args.width c.from_vec-in-Ok.result (ap option_copied c.in-None.is)
    (c.from_vec-in-Ok.ensures ∙ c.in_ok-all_columns-in-Ok.ensures ∙ ap (range_with_len 0) width)
