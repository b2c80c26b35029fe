use Rattle.std.proofs.Common.{length}
use Rattle.ca_serial.proofs.marked.+is_site_among.Given as goal

abbrev pub decreases-is_site_among : goal.decreases-is_site_among
decreases-is_site_among l = length l.sites.now
