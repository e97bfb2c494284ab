-- one run of a chain, from what holds of a call with the words of a run
mod ChainLinks
-- a chain with one run more, and the places that a loop has gone through
mod ChainLoop
-- if a byte of a receipt stands in a text of a chain, the receipt's entry is in the prefix
mod ChainReceipts
-- what is found of an image that stands for a durable state and a seal
mod ChainScan
-- sums over the prefixes of a chain
mod ChainSums
-- a run on a new store prints the receipts that are explained
mod NewStores
-- runs from starts that are alike
mod SameStarts
-- what acts that are alike print, enter and leave
mod SameTexts
