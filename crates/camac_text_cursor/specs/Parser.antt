-- What the parser's functions return, beside the readers.
use Rattle.std.specs.Prelude.{◌≡◌, ℕ, false, List, [], map, Result, Ok, Err}
use Rattle.camac_lang.specs.View.{item_of, table_of, lam_of, procedure_of, service_of, callable_of}
use Rattle.camac_tokens.specs.declared.fault.TextFault.{TextFault}
use Rattle.camac_tokens.specs.declared.token.Token.{Token}
use Rattle.camac_text_cursor.specs.declared.cursor.Parser.{Parser}
use Rattle.camac_tokens.specs.declared.fault.TextFault.TheVariants as text_fault
use Rattle.camac_tokens.specs.Fault as of_text
use Rattle.camac_text_cursor.specs.Choice.{held}
use Rattle.camac_text_cursor.specs.Tried.{none, Tried, Told}
use Rattle.camac_text_cursor.specs.Reading.{State, Fault}

-- the line of a text's end, or 0, the line of nothing, where a token fault ends the tokens
abbrev pub line_in : Result ℕ of_text.Fault → ℕ
line_in (Ok line) = line
line_in (Err e) = 0

abbrev pub state : Parser → State
state p = record {
  rest = p.rest.tokens;
  end_line = line_in p.rest.end;
  order = map item_of p.order.items;
  tables = map table_of p.tables.items;
  lams = map lam_of p.lams.items;
  variables = p.variables.items;
  procedures = map procedure_of p.procedures.items;
  services = map service_of p.services.items;
  callables = map callable_of p.callables.items;
  in_procedure = p.in_procedure;
  outside = p.outside.items;
  variable_count = p.variable_count;
  declared = p.declared.items;
  registers = p.registers.items;
  statements = p.statements;
  tried = Told (held p.missed);
}

-- the state before the first token, where nothing is declared
abbrev pub unread : List Token → ℕ → State
unread tokens end_line = record {
  rest = tokens;
  end_line = end_line;
  order = [];
  tables = [];
  lams = [];
  variables = [];
  procedures = [];
  services = [];
  callables = [];
  in_procedure = false;
  outside = [];
  variable_count = 0;
  declared = [];
  registers = [];
  statements = 0;
  tried = Told none;
}

-- A fault that is returned is the one that is read, and this was looked for at its token, unless memory was refused.
abbrev pub FailsWith : {A : Type 0} → TextFault → Tried → Result A Fault → Type 0
FailsWith text_fault.OutOfMemory tried read = Unit {0}
FailsWith (text_fault.Broken case spot) tried read = read ≡ Err (record { case = case; spot = spot; tried = tried })

-- What a function returned, seen by view, and what it left are what is read, unless memory was refused.
abbrev pub Gives : {X Y : Type 0} → (X → Y) → Result X TextFault → Parser → Result (Y × State) Fault → Type 0
Gives view (Ok x) after read = read ≡ Ok (view x, state after)
Gives view (Err e) after read = FailsWith e (state after).tried read
