use Rattle.cell_core_devices.proofs.AgreementLemmas.{agreement}
use Rattle.cell_core_devices.proofs.law.agreement_means_content_was_read.Goals as goal

pub returns : goal.returns
returns c = agreement
