-- Names among those that were declared.
use Rattle.std.specs.Prelude.{ℕ, List, Option}
use Rattle.std.specs.List.{position_from}
use Rattle.std.specs.Str.{bytes_eq}
use Rattle.camac_lang.specs.Tree.{Text, Table, Lam, Procedure}

-- the first place of a name
abbrev pub name_place : Text → List Text → Option ℕ
name_place x names = position_from (bytes_eq x) 0 names

-- the first place of a LAM with this name
abbrev pub lam_place : Text → List Lam → Option ℕ
lam_place x lams = position_from (λ (l : Lam). bytes_eq x l.name) 0 lams

-- the first place of a table with this name
abbrev pub table_place : Text → List Table → Option ℕ
table_place x tables = position_from (λ (t : Table). bytes_eq x t.name) 0 tables

-- the first place of a procedure with this name
abbrev pub procedure_place : Text → List Procedure → Option ℕ
procedure_place x procedures = position_from (λ (p : Procedure). bytes_eq x p.name) 0 procedures
