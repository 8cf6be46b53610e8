use Rattle.std.proofs.Common.{subst, map}
use Rattle.std.specs.Prelude.{string_bytes}
use Rattle.camac_tool.specs.Devices.{outputs}
use Rattle.camac_tool.specs.Status.{Ends}
use Rattle.camac_word.specs.Watched.{inner_of, has_failed}
use Rattle.camac_tool.proofs.program.exit_status.Goals as goal

pub returns : goal.returns
returns g c =
    let rt = c.args.rt.now in
    let served = c.serve_words.result in
    subst (λ x. Ends (g.R.Host.bytes_of rt) (g.R.Host.finds rt) (g.R.Host.saved rt) (g.R.Host.fails rt) (map string_bytes c.args.words.now) (outputs g.W.Write.contents g.R.Host.holds x c.args.events) (outputs g.W.Write.contents g.R.Host.holds (inner_of served.1) served.2) (has_failed served.1) served.0)
    c.new.ensures.inner c.serve_words.ensures
