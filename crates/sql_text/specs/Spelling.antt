-- How reserved words and symbols are written.
use Rattle.std.specs.Prelude.{ℕ, Option, List, codes}
use Rattle.std.specs.List.{find}
use Rattle.std.specs.Str.{bytes_eq}
use Rattle.sql_text.specs.declared.token.Reserved.{Reserved}
use Rattle.sql_text.specs.declared.token.Reserved.TheVariants.{Select, Distinct, From, Where, Group, By, Having, Order, Asc, Desc, Nulls, First, Last, As, On, Using, Join, Inner, Left, Outer, Cross, And, Or, Not, Is, Null, True, False, Count, Sum, Min, Max, Insert, Into, Values, Explain, Plan, Memo, For, Refresh, Table, Create, Drop, Choose, Tile, Tiles, Measures, Limit, Offset, Row, Rows, Fetch, Next, Only, Delete}
use Rattle.sql_text.specs.declared.token.Symbol.{Symbol}
use Rattle.sql_text.specs.declared.token.Symbol.TheVariants.{Comma, Dot, Open, Close, Star, Plus, Minus, Slash, Equal, NotEqual, Less, LessEqual, Greater, GreaterEqual, Semicolon}
use Rattle.sql_text.specs.declared.words.TheConstants.{RESERVED}

-- the letters of a reserved word
abbrev pub letters : Reserved → List ℕ
letters Select = codes "SELECT"
letters Distinct = codes "DISTINCT"
letters From = codes "FROM"
letters Where = codes "WHERE"
letters Group = codes "GROUP"
letters By = codes "BY"
letters Having = codes "HAVING"
letters Order = codes "ORDER"
letters Asc = codes "ASC"
letters Desc = codes "DESC"
letters Nulls = codes "NULLS"
letters First = codes "FIRST"
letters Last = codes "LAST"
letters As = codes "AS"
letters On = codes "ON"
letters Using = codes "USING"
letters Join = codes "JOIN"
letters Inner = codes "INNER"
letters Left = codes "LEFT"
letters Outer = codes "OUTER"
letters Cross = codes "CROSS"
letters And = codes "AND"
letters Or = codes "OR"
letters Not = codes "NOT"
letters Is = codes "IS"
letters Null = codes "NULL"
letters True = codes "TRUE"
letters False = codes "FALSE"
letters Count = codes "COUNT"
letters Sum = codes "SUM"
letters Min = codes "MIN"
letters Max = codes "MAX"
letters Insert = codes "INSERT"
letters Into = codes "INTO"
letters Values = codes "VALUES"
letters Explain = codes "EXPLAIN"
letters Plan = codes "PLAN"
letters Memo = codes "MEMO"
letters For = codes "FOR"
letters Refresh = codes "REFRESH"
letters Table = codes "TABLE"
letters Create = codes "CREATE"
letters Drop = codes "DROP"
letters Choose = codes "CHOOSE"
letters Tile = codes "TILE"
letters Tiles = codes "TILES"
letters Measures = codes "MEASURES"
letters Limit = codes "LIMIT"
letters Offset = codes "OFFSET"
letters Row = codes "ROW"
letters Rows = codes "ROWS"
letters Fetch = codes "FETCH"
letters Next = codes "NEXT"
letters Only = codes "ONLY"
letters Delete = codes "DELETE"

-- the reserved word with these letters
unfoldable pub reserved_of : List ℕ → Option Reserved
reserved_of upper = find (λ w. bytes_eq (letters w) upper) RESERVED

abbrev pub symbol_text : Symbol → List ℕ
symbol_text Comma = codes ","
symbol_text Dot = codes "."
symbol_text Open = codes "("
symbol_text Close = codes ")"
symbol_text Star = codes "*"
symbol_text Plus = codes "+"
symbol_text Minus = codes "-"
symbol_text Slash = codes "/"
symbol_text Equal = codes "="
symbol_text NotEqual = codes "<>"
symbol_text Less = codes "<"
symbol_text LessEqual = codes "<="
symbol_text Greater = codes ">"
symbol_text GreaterEqual = codes ">="
symbol_text Semicolon = codes ";"
