use Rattle.std.proofs.Common.{◌≡◌, Err, ap}
use Rattle.std.proofs.lemmas.Result.{err_from_is_err_and}
use Rattle.zdd_families.specs.Map.{family}
use Rattle.zdd_shared_table.specs.Seats.{map_of}
use Rattle.path_sets.specs.declared.listing.PathEnd.TheVariants.{ListLimit}
use Rattle.path_sets.specs.Ends.{end_of_list}
use Rattle.path_sets.proofs.EndLemmas.{list_limit}
use Rattle.path_sets.proofs.PathLists.{no_empty_path, path_list-from_family}
use Rattle.path_sets.proofs.listing.path_list.Goals as goal

pub list-requires-clause-filled : goal.list-requires-clause-filled
list-requires-clause-filled c =
    no_empty_path c.args.tree.now (family (map_of c.path_root.new.seat) c.in_ok-root.root)
    c.in_ok-root.ensures.paths.1 c.units.ensures.kept

pub returns-in_err-paths-clause-limit : goal.returns-in_err-paths-clause-limit
returns-in_err-paths-clause-limit c is =
    let p = err_from_is_err_and c.from_residual-in_err-paths.result c.from_residual-in_err-paths.ensures.1 in
    let end : end_of_list c.in_err-paths.field-0.0 ≡ ListLimit = (let e = p.1 in let f = p.2 in cc) in
    let heavy = c.in_err-paths.ensures.limit (ap (λ e. Err e) (list_limit c.in_err-paths.field-0.0 end)) in (
      heavy.list,
      path_list-from_family c.args.tree.now (family (map_of c.path_root.new.seat) c.in_ok-root.root)
          c.in_ok-root.ensures.paths.1 heavy.list heavy.sets heavy.ordered,
      heavy.heavy,
    )

pub returns-clause-paths : goal.returns-clause-paths
returns-clause-paths c =
    path_list-from_family c.args.tree.now (family (map_of c.path_root.new.seat) c.in_ok-root.root)
    c.in_ok-root.ensures.paths.1 c.in_ok-paths.paths c.in_ok-paths.ensures.sets c.len.ensures.ordered.ordered
