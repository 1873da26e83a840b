-- Firings differ in rule, n or binding: a binding stands in one set alone.
use Rattle.std.proofs.Common.{◌≡◌, ℕ, ◌<◌, List, length, get_or, sym, ◌∙◌, ap, subst}
use Rattle.std.proofs.lemmas.List.Elements.{Contains-get_or}
use Rattle.cal_rel.specs.Info.{Info}
use Rattle.rule_hep.specs.Meaning.{Meaning}
use Rattle.memo_model.specs.Sets.{Sets, Stands}
use Rattle.memo_model.proofs.StandLemmas.{stands-once}
use Rattle.search_model.specs.Firings.{Firing, AreApart}
use Rattle.search_model.specs.Search.{IsSearch}
use Rattle.search_model.proofs.BindLemmas.{binds-stands}

pub search-apart : (info : Info) (rules : List Meaning) (budget : ℕ) (m : Sets) (firings : List Firing) → IsSearch info rules budget m firings → AreApart firings
search-apart info rules budget m firings search = record { apart = λ i j d li lj r n t. differ i j d li lj r n t }
  where
    differ : (i j : ℕ) (d : Firing) → i < length firings → j < length firings → (get_or firings i d).rule ≡ (get_or firings j d).rule
        → (get_or firings i d).nth ≡ (get_or firings j d).nth → (get_or firings i d).binding ≡ (get_or firings j d).binding → i ≡ j
    differ i j d li lj r n t =
        let f = get_or firings i d in
        let g = get_or firings j d in
        let one = search.fired f (Contains-get_or firings i d li) in
        let two = search.fired g (Contains-get_or firings j d lj) in
        let first : Stands m.members f.set f.binding = binds-stands info m search.sound.coherent one.law.reach f.set f.binding one.binds in
        let second : Stands m.members g.set g.binding = binds-stands info m search.sound.coherent two.law.reach g.set g.binding two.binds in
        let again : Stands m.members g.set f.binding = subst (λ x. Stands m.members g.set x) (sym t) second in
        let s : f.set ≡ g.set = stands-once m.members search.sound.unique f.set g.set f.binding first again in
        let same : f ≡ g =
        ap (λ z. record { rule = z; nth = f.nth; binding = f.binding; set = f.set }) r
        ∙ ap (λ z. record { rule = g.rule; nth = z; binding = f.binding; set = f.set }) n
        ∙ ap (λ z. record { rule = g.rule; nth = g.nth; binding = z; set = f.set }) t
        ∙ ap (λ z. record { rule = g.rule; nth = g.nth; binding = g.binding; set = z }) s in
        search.once.once i j d li lj same
