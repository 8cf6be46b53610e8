-- Faults of linking and of the checker, as those of the least headings.
use Rattle.camac_names.specs.declared.fault.LinkFault.{LinkFault}
use Rattle.camac_names.specs.declared.fault.LinkFault.TheVariants as link
use Rattle.camac_check_known.specs.declared.fault.CheckFault.{CheckFault}
use Rattle.camac_check_known.specs.declared.fault.CheckFault.TheVariants as check
use Rattle.camac_check.specs.declared.fault.LeastFault.{LeastFault}
use Rattle.camac_check.specs.declared.fault.LeastFault.TheVariants.{OutOfMemory, Link, Check}

abbrev pub of_link : LinkFault → LeastFault
of_link link.OutOfMemory = OutOfMemory
of_link (link.Broken rule spot case) = Link rule spot case

abbrev pub of_check : CheckFault → LeastFault
of_check check.OutOfMemory = OutOfMemory
of_check (check.Broken rule spot case) = Check rule spot case
