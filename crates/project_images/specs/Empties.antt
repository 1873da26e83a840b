-- The empty tree that a rule puts in the place of another.
use Rattle.std.specs.Prelude.{pos, false, List, map, Option}
use Rattle.std.specs.Option.{option_map}
use Rattle.cal_value.specs.declared.interval.Interval.{Interval}
use Rattle.cal_value.specs.declared.interval.Interval.TheVariants.{Never, Range}
use Rattle.cal_value.specs.declared.kind.Kind.{Kind}
use Rattle.cal_value.specs.declared.kind.Kind.TheVariants.{Integer}
use Rattle.cal_value.specs.declared.kind.SqlType.{SqlType}
use Rattle.cal_rel.specs.Info.{Info}
use Rattle.cal_rel.specs.Tree.{Tree, empty_of, leaf}
use Rattle.cal_rel.specs.Typing.{type_of}

abbrev pub no_interval : Kind → Interval
no_interval Integer = Never
no_interval kind = Range (pos 0) (pos 0)

-- a column of that kind without a value
abbrev pub empty_column : SqlType → SqlType
empty_column column = record { kind = column.kind; nullable = false; interval = no_interval column.kind }

abbrev pub empty_with : List SqlType → Tree
empty_with columns = leaf (empty_of (map empty_column columns))

-- with columns of the kinds of this tree
abbrev pub empty_for : Info → Tree → Option Tree
empty_for info rel = option_map (λ t. empty_with t.columns) (type_of info rel)
