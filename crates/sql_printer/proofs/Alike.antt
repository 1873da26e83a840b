-- Statements that differ in places alone are printed alike.
use Rattle.std.proofs.Common.{◌≡◌, Option, Some, None, List, [], ◌∷◌, ◌++◌, length, map, refl, sym, ap, ◌∙◌, subst}
use Rattle.std.specs.List.{flat_map}
use Rattle.std.specs.Option.{option_map}
use Rattle.sql_tree.specs.declared.tree.Tree.{Tree}
use Rattle.sql_tree.specs.declared.tree.Tree.TheFolds.{fold-roll-Tree, ind-Tree, map-Tree}
use Rattle.sql_tree.specs.declared.tree.Tree.TheOpen.{Tree-F}
use Rattle.sql_tree.specs.declared.tree.Tree.TheViews.{roll-Tree}
use Rattle.sql_tree.specs.declared.tree.Tree.TheVariants.{rolls-Column, rolls-Literal, rolls-Negate, rolls-Binary, rolls-Not, rolls-IsNull, rolls-Aggregate}
use Rattle.sql_text.specs.declared.token.Reserved.TheVariants.{As, On, Using as UsingWord, Where, Having, Order, By, Select as SelectWord, Distinct, From, Measures, Tile, Plan, Memo, Create, Drop}
use Rattle.sql_text.specs.declared.token.Symbol.TheVariants.{Comma}
use Rattle.sql_text.specs.declared.token.Token.TheVariants.{Name, Word, Symbol}
use Rattle.sql_tree.specs.declared.select.Item.{Item}
use Rattle.sql_tree.specs.declared.select.Items.{Items}
use Rattle.sql_tree.specs.declared.select.Items.TheVariants.{Star, Listed}
use Rattle.sql_tree.specs.declared.select.Cond.{Cond}
use Rattle.sql_tree.specs.declared.select.Cond.TheVariants.{On as CondOn, Using}
use Rattle.sql_tree.specs.declared.select.How.{How}
use Rattle.sql_tree.specs.declared.select.How.TheVariants.{First, Cross, Inner, Left}
use Rattle.sql_tree.specs.declared.select.FromEntry.{FromEntry}
use Rattle.sql_tree.specs.declared.select.OrderKey.{OrderKey}
use Rattle.sql_tree.specs.declared.select.Select.{Select}
use Rattle.sql_tree.specs.declared.statement.TileText.{TileText}
use Rattle.sql_tree.specs.declared.statement.Statement.{Statement}
use Rattle.sql_tree.specs.declared.statement.Statement.TheVariants.{Select as SelectOf, ExplainPlan, ExplainMemo, Insert, Refresh, CreateTile, DropTile, ChooseTiles}
use Rattle.std.proofs.lemmas.List.{length-map}
use Rattle.sql_printer.specs.Printing.{Tokens, Printed, node, printed_tree, listed, in_brackets, column_tokens, table_tokens, tree_tokens, clause, optional, item_tokens, items_tokens, using_tokens, cond_tokens, join_tokens, how_tokens, alias_tokens, entry_tokens, word_if, key_tokens, tail_tokens, select_tokens, measures_tokens, tile_tokens, explain_tokens, printed_tokens}
use Rattle.sql_tree.specs.Same.{placeless_node, placeless_tree, placeless_item, placeless_items, placeless_using, placeless_cond, placeless_how, placeless_entry, placeless_key, placeless_select, placeless_tile, placeless, IsSame}

abbrev Alike : Tree → Type 0
Alike e = printed_tree (placeless_tree e) ≡ printed_tree e

at : (x : Tree-F Tree) → printed_tree (roll-Tree x) ≡ node (map-Tree Tree Printed printed_tree x)
at x = fold-roll-Tree Printed node x

-- one level, whose parts are printed alike
abbrev AlikeLevel : Tree-F Tree → Type 0
AlikeLevel x = printed_tree (placeless_node (map-Tree Tree Tree placeless_tree x)) ≡ node (map-Tree Tree Printed printed_tree x)

level : (y : Tree-F ((e : Tree) × Alike e)) → AlikeLevel (map-Tree ((e : Tree) × Alike e) Tree (λ e. e.0) y)
level (Tree-F.Column place name) = ap printed_tree (sym (rolls-Column 0 name)) ∙ at (Tree-F.Column 0 name)
level (Tree-F.Literal place v) = ap printed_tree (sym (rolls-Literal 0 v)) ∙ at (Tree-F.Literal 0 v)
level (Tree-F.Negate place p) = ap printed_tree (sym (rolls-Negate 0 (placeless_tree p.0))) ∙ at (Tree-F.Negate 0 (placeless_tree p.0)) ∙ ap (λ q. node (Tree-F.Negate 0 q)) p.1
level (Tree-F.Binary place o p q) =
    ap printed_tree (sym (rolls-Binary 0 o (placeless_tree p.0) (placeless_tree q.0))) ∙ at (Tree-F.Binary 0 o (placeless_tree p.0) (placeless_tree q.0))
    ∙ ap (λ x. node (Tree-F.Binary 0 o x (printed_tree (placeless_tree q.0)))) p.1 ∙ ap (λ x. node (Tree-F.Binary 0 o (printed_tree p.0) x)) q.1
level (Tree-F.Not place p) = ap printed_tree (sym (rolls-Not 0 (placeless_tree p.0))) ∙ at (Tree-F.Not 0 (placeless_tree p.0)) ∙ ap (λ q. node (Tree-F.Not 0 q)) p.1
level (Tree-F.IsNull place p) = ap printed_tree (sym (rolls-IsNull 0 (placeless_tree p.0))) ∙ at (Tree-F.IsNull 0 (placeless_tree p.0)) ∙ ap (λ q. node (Tree-F.IsNull 0 q)) p.1
level (Tree-F.Aggregate place a None) = ap printed_tree (sym (rolls-Aggregate 0 a None)) ∙ at (Tree-F.Aggregate 0 a None)
level (Tree-F.Aggregate place a (Some p)) =
    ap printed_tree (sym (rolls-Aggregate 0 a (Some (placeless_tree p.0)))) ∙ at (Tree-F.Aggregate 0 a (Some (placeless_tree p.0))) ∙ ap (λ q. node (Tree-F.Aggregate 0 a (Some q))) p.1

at_roll : (x : Tree-F Tree) → AlikeLevel x → Alike (roll-Tree x)
at_roll x h = ap printed_tree (fold-roll-Tree Tree placeless_node x) ∙ h ∙ sym (at x)

pub tree_alike : (e : Tree) → printed_tree (placeless_tree e) ≡ printed_tree e
tree_alike = ind-Tree Alike (λ x y is. subst (λ z. Alike (roll-Tree z)) is (at_roll _ (level y)))

-- ---- lists and options

flat_alike : {A : Type 0} (f : A → Tokens) (g : A → A) → ((x : A) → f (g x) ≡ f x) → (xs : List A) → flat_map f (map g xs) ≡ flat_map f xs
flat_alike f g h [] = refl
flat_alike f g h (x ∷ xs) = ap (λ ts. ts ++ flat_map f (map g xs)) (h x) ∙ ap (λ ts. f x ++ ts) (flat_alike f g h xs)

listed_alike : {A : Type 0} (f : A → Tokens) (g : A → A) → ((x : A) → f (g x) ≡ f x) → (xs : List A) → listed f (map g xs) ≡ listed f xs
listed_alike f g h [] = refl
listed_alike f g h (x ∷ xs) =
    ap (λ ts. ts ++ flat_map (λ y. Symbol Comma ∷ f y) (map g xs)) (h x)
    ∙ ap (λ ts. f x ++ ts) (flat_alike (λ y. Symbol Comma ∷ f y) g (λ y. ap (λ ts. Symbol Comma ∷ ts) (h y)) xs)

clause_alike : {A : Type 0} (words : Tokens) (f : A → Tokens) (g : A → A) → ((x : A) → f (g x) ≡ f x) → (xs : List A) → clause words f (map g xs) ≡ clause words f xs
clause_alike words f g h [] = refl
clause_alike words f g h (x ∷ xs) = let same = listed_alike f g h (x ∷ xs) in let size : length (map g xs) ≡ length xs = length-map xs g in rw (size, same) refl

optional_alike : {A : Type 0} (f : A → Tokens) (g : A → A) → ((x : A) → f (g x) ≡ f x) → (o : Option A) → optional f (option_map g o) ≡ optional f o
optional_alike f g h None = refl
optional_alike f g h (Some x) = h x

-- ---- the parts of a statement

tokens_alike : (e : Tree) → tree_tokens (placeless_tree e) ≡ tree_tokens e
tokens_alike e = ap (λ (p : Printed). p.1) (tree_alike e)

item_alike : (item : Item) → item_tokens (placeless_item item) ≡ item_tokens item
item_alike item = ap (λ ts. ts ++ optional (λ alias. Word As ∷ Name alias ∷ []) item.alias) (tokens_alike item.tree)

items_alike : (items : Items) → items_tokens (placeless_items items) ≡ items_tokens items
items_alike Star = refl
items_alike (Listed items) = listed_alike item_tokens placeless_item item_alike items

cond_alike : (cond : Cond) → cond_tokens (placeless_cond cond) ≡ cond_tokens cond
cond_alike (CondOn tree) = ap (λ ts. Word On ∷ ts) (tokens_alike tree)
cond_alike (Using names) = ap (λ ts. Word UsingWord ∷ in_brackets ts) (listed_alike using_tokens placeless_using (λ name. refl) names)

how_alike : (how : How) → (join_tokens (placeless_how how) ≡ join_tokens how) × (how_tokens (placeless_how how) ≡ how_tokens how)
how_alike First = (refl, refl)
how_alike Cross = (refl, refl)
how_alike (Inner cond) = (refl, cond_alike cond)
how_alike (Left cond) = (refl, cond_alike cond)

entry_alike : (entry : FromEntry) → entry_tokens (placeless_entry entry) ≡ entry_tokens entry
entry_alike entry =
    let h = how_alike entry.how in
    ap (λ ts. ts ++ (table_tokens entry.table ++ (alias_tokens entry.table.name entry.alias ++ how_tokens (placeless_how entry.how)))) h.0
    ∙ ap (λ ts. join_tokens entry.how ++ (table_tokens entry.table ++ (alias_tokens entry.table.name entry.alias ++ ts))) h.1

key_alike : (key : OrderKey) → key_tokens (placeless_key key) ≡ key_tokens key
key_alike key = refl

tail_alike : (s : Select) → tail_tokens (placeless_select s) ≡ tail_tokens s
tail_alike s =
    let f = optional_alike (λ tree. Word Where ∷ tree_tokens tree) placeless_tree (λ e. ap (λ ts. Word Where ∷ ts) (tokens_alike e)) s.filter in
    let h = optional_alike (λ tree. Word Having ∷ tree_tokens tree) placeless_tree (λ e. ap (λ ts. Word Having ∷ ts) (tokens_alike e)) s.having in
    let o = clause_alike (Word Order ∷ Word By ∷ []) key_tokens placeless_key key_alike s.order in
    rw (f, h, o) refl

select_alike : (s : Select) → select_tokens (placeless_select s) ≡ select_tokens s
select_alike s =
    let i = items_alike s.items in
    let f = flat_alike entry_tokens placeless_entry entry_alike s.from in
    let t = tail_alike s in
    ap (λ ts. Word SelectWord ∷ (word_if Distinct s.distinct ++ (ts ++ Word From ∷ (flat_map entry_tokens (map placeless_entry s.from) ++ tail_tokens (placeless_select s))))) i
    ∙ ap (λ ts. Word SelectWord ∷ (word_if Distinct s.distinct ++ (items_tokens s.items ++ Word From ∷ (ts ++ tail_tokens (placeless_select s))))) f
    ∙ ap (λ ts. Word SelectWord ∷ (word_if Distinct s.distinct ++ (items_tokens s.items ++ Word From ∷ (flat_map entry_tokens s.from ++ ts)))) t

measures_alike : (measures : List Tree) → measures_tokens (map placeless_tree measures) ≡ measures_tokens measures
measures_alike measures = ap (λ ts. Word Measures ∷ in_brackets ts) (listed_alike tree_tokens placeless_tree tokens_alike measures)

tile_alike : (tile : TileText) → tile_tokens (placeless_tile tile) ≡ tile_tokens tile
tile_alike tile =
    ap (λ ts. Word Tile ∷ Word On ∷ (table_tokens tile.lattice ++ (in_brackets (listed column_tokens tile.dims) ++ ts)))
    (optional_alike measures_tokens (map placeless_tree) measures_alike tile.measures)

statement_alike : (s : Statement) → printed_tokens (placeless s) ≡ printed_tokens s
statement_alike (SelectOf select) = select_alike select
statement_alike (ExplainPlan select) = ap (λ ts. explain_tokens Plan ++ ts) (select_alike select)
statement_alike (ExplainMemo select) = ap (λ ts. explain_tokens Memo ++ ts) (select_alike select)
statement_alike (Insert table rows) = refl
statement_alike (Refresh table) = refl
statement_alike (CreateTile tile) = ap (λ ts. Word Create ∷ ts) (tile_alike tile)
statement_alike (DropTile tile) = ap (λ ts. Word Drop ∷ ts) (tile_alike tile)
statement_alike (ChooseTiles lattice most) = refl

pub printed_alike : (a b : Statement) → IsSame a b → printed_tokens a ≡ printed_tokens b
printed_alike a b h = sym (statement_alike a) ∙ ap printed_tokens h ∙ statement_alike b
