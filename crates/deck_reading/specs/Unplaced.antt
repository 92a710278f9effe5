-- What statements say, wherever they stand in a text: two are the same but for their places where they are equal once
-- each place is put aside.
use Rattle.std.specs.Prelude.{◌≡◌, List, map}
use Rattle.fault_words.specs.{declared.attribute.Attribute.Attribute, declared.place.Place.Place}
use Rattle.galileo_tree.specs.{declared.raw.Placed.Placed, declared.raw.RawAttribute.RawAttribute}
use Rattle.galileo_tree.specs.{declared.raw.Statement.Statement, ReadTree.ReadTree}
use Rattle.galileo_tree.specs.declared.raw.Statement.TheVariants as raw
use Rattle.deck_reading.specs.Written.{WrittenName, WrittenStatement, Top, Gate, Basic, name_in}

-- a place that no text has
abbrev pub nowhere : Place
nowhere = record { line = 0; column = 0 }

-- ---- statements whose places are put aside

-- a name, with its place put aside
abbrev pub unplaced_name : Placed → Placed
unplaced_name placed = record { name = placed.name; place = nowhere }

-- an attribute, with the place of its value put aside
abbrev pub unplaced_attribute : RawAttribute → RawAttribute
unplaced_attribute raw = record { attribute = raw.attribute; value_place = nowhere }

-- a statement, with all places in it put aside
abbrev pub unplaced : Statement → Statement
unplaced (raw.Top top) = raw.Top (record { word = nowhere; name = unplaced_name top.name })
unplaced (raw.Gate gate) =
    raw.Gate (record {
      name = unplaced_name gate.name;
      word = nowhere;
      kind = gate.kind;
      inputs = map unplaced_name gate.inputs;
    })
unplaced (raw.Basic basic) =
    raw.Basic (record { name = unplaced_name basic.name; attributes = map unplaced_attribute basic.attributes })

-- ---- what is written says a statement without places

-- a written name, as it is read but for its place
abbrev pub named : WrittenName → Placed
named name = record { name = name_in name; place = nowhere }

-- a written attribute, as it is read but for the place of its value
abbrev pub attributed : Attribute → RawAttribute
attributed attribute = record { attribute = attribute; value_place = nowhere }

-- a written statement, as it is read but for its places
abbrev pub said : WrittenStatement → Statement
said (Top name) = raw.Top (record { word = nowhere; name = named name })
said (Gate name kind inputs) =
    raw.Gate (record { name = named name; word = nowhere; kind = kind; inputs = map named inputs })
said (Basic name attributes) = raw.Basic (record { name = named name; attributes = map attributed attributes })

-- the statements that are written, as they are read but for their places
abbrev pub said_tree : List WrittenStatement → ReadTree
said_tree statements = record { statements = map said statements; end = nowhere }

-- the statements are these, in their order, wherever they stand
abbrev pub SaysAll : List Statement → List WrittenStatement → Type 0
SaysAll statements written = map unplaced statements ≡ map said written
