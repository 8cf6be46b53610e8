-- Trees that have the declarations of another, and perhaps more.
use Rattle.std.proofs.Common.{◌≡◌, List, [], ◌++◌, Option, Some, None, refl, sym, ◌∙◌, append_assoc}
use Rattle.std.proofs.lemmas.List.{append-nil}
use Rattle.camac_lang.specs.Tree.{Text, Table, Lam, Procedure, Service, Item, Script}

pub record Extends (s t : Script) : Type 0 where
  pub tables : List Table
  pub tables_are : t.tables ≡ s.tables ++ tables
  pub lams : List Lam
  pub lams_are : t.lams ≡ s.lams ++ lams
  pub variables : List Text
  pub variables_are : t.variables ≡ s.variables ++ variables
  pub procedures : List Procedure
  pub procedures_are : t.procedures ≡ s.procedures ++ procedures
  pub services : List Service
  pub services_are : t.services ≡ s.services ++ services

pub itself : (s : Script) → Extends s s
itself s = record {
  tables = [];
  tables_are = sym (append-nil s.tables);
  lams = [];
  lams_are = sym (append-nil s.lams);
  variables = [];
  variables_are = sym (append-nil s.variables);
  procedures = [];
  procedures_are = sym (append-nil s.procedures);
  services = [];
  services_are = sym (append-nil s.services);
}

-- a list, and perhaps more after it
abbrev pub with_more : {A : Type 0} → List A → Option (List A) → List A
with_more xs None = xs
with_more xs (Some ys) = xs ++ ys

more_first : {A : Type 0} → Option (List A) → List A → List A
more_first None zs = zs
more_first (Some ys) zs = ys ++ zs

more_regroups : {A : Type 0} (xs : List A) (o : Option (List A)) (zs : List A) → with_more xs o ++ zs ≡ xs ++ more_first o zs
unfolding more_first
more_regroups xs None zs = refl
more_regroups xs (Some ys) zs = append_assoc xs ys zs

-- what extends a tree with more declarations extends it without them
pub fewer : {s t : Script} {order : List Item} (gs : Option (List Table)) (ls : Option (List Lam)) (xs : Option (List Text)) (ps : Option (List Procedure)) (vs : Option (List Service))
    → Extends (record { order = order; tables = with_more s.tables gs; lams = with_more s.lams ls; variables = with_more s.variables xs; procedures = with_more s.procedures ps; services = with_more s.services vs }) t → Extends s t
fewer {s = s} gs ls xs ps vs x = record {
  tables = more_first gs x.tables;
  tables_are = x.tables_are ∙ more_regroups s.tables gs x.tables;
  lams = more_first ls x.lams;
  lams_are = x.lams_are ∙ more_regroups s.lams ls x.lams;
  variables = more_first xs x.variables;
  variables_are = x.variables_are ∙ more_regroups s.variables xs x.variables;
  procedures = more_first ps x.procedures;
  procedures_are = x.procedures_are ∙ more_regroups s.procedures ps x.procedures;
  services = more_first vs x.services;
  services_are = x.services_are ∙ more_regroups s.services vs x.services;
}
