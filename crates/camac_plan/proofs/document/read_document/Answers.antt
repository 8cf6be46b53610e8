use Rattle.std.proofs.Common.{rules}
use Rattle.camac_plan.proofs.Documents.{document_of-parsed, document_of-refused}
use Rattle.camac_plan.proofs.document.read_document.Goals as goal

pub returns-in-Ok-clause-ok : goal.returns-in-Ok-clause-ok
returns-in-Ok-clause-ok c = document_of-parsed c.args.bytes.now _ c.in-Ok.ensures.ok

pub returns-in-Some-clause-refused : goal.returns-in-Some-clause-refused
returns-in-Some-clause-refused c =
    rw (c.into.ensures, c.broken.ensures) (document_of-refused _ c.args.bytes.now (c.in-Err.ensures.refused (λ m. search rules)))
