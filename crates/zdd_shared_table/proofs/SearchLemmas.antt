-- What follows from the definitions of `specs/Search`.
use Rattle.std.specs.Prelude.{ℕ, ◌==◌, if◌then◌else◌}
use Rattle.zdd_shared_table.specs.{Views.searching, Views.searched_all, declared.view.View.View}

-- the view of a seat whose search has passed some slots
abbrev pub after_passing : ℕ → ℕ → View → View
after_passing word passed v =
    if passed == 0 then v else (if passed == v.size then searched_all word v else searching word passed v)
